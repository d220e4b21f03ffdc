pub mod GoodProgram
