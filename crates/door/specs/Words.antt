-- The words in which the contracts of the engine speak of a card, a configuration and an answer, handed on from where they are
-- defined.
pub use Rattle.paper.specs.Language.{𝐁}
pub use Rattle.runs.specs.Kinds.{kind_number}
pub use Rattle.meaning.specs.Card.{Bytes, conditions, agent_for, start}
pub use Rattle.meaning.specs.Configurations.{state_of, configuration_of, empty}
pub use Rattle.layout.specs.PlaceParts.{configured}
pub use Rattle.card.specs.GoodCard.{GoodCard, GoodCondition}
pub use Rattle.door.specs.Ready.{Ready}
pub use Rattle.door.specs.InPlace.{reply_with, written_with, ran_with}
pub use Rattle.door.specs.Asking.{asked, choice_at, choice_of, chosen, first_of_kind}
