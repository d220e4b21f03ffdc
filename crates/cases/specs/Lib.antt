pub mod BoundedCases
