-- An accepted card and configuration.
use Rattle.std.specs.Prelude.{◌≡◌, ◌≤◌, length, take}
use Rattle.meaning.specs.declared.Layout.{Layout}
use Rattle.meaning.specs.declared.Configuration.{Configuration}
use Rattle.meaning.specs.Card.{Bytes}
use Rattle.meaning.specs.Configurations.{padded}
use Rattle.card.specs.GoodCard.{GoodCard}

-- an accepted card and configuration: what rows 1 to 9 and 13 leave
pub record Ready (l : Layout) (b : Bytes) (c : Configuration) : Type 0 where
  pub card : GoodCard l b
  pub fits : c.mind.length ≤ 1024
  pub zeros : c.plan ≡ padded (take c.mind.length c.plan)
  pub room : length c.plan ≡ 1024
  pub phase : c.mind.phase ≤ 2
