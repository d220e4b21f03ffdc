-- What the items of a text say is the text's lines: no item is lost, and none is taken for another.
use mathlib.Core.Path.{◌≡◌, refl, ap}
use mathlib.Core.List.{List, [], ◌∷◌, ◌++◌, map}
use Prim.Native.Nat.{ℕ}
use Rattle.notation.specs.Lines.{Do, Select, Revise, Begin, Said}
use Rattle.notation.specs.Values.{Item, atoms_said, action_said, do_said, select_said, revise_said, begin_said}
use Rattle.notation.specs.Making.{items_said}

-- an item more
unfoldable pub add : Item → Said → Said
add (atoms_said n) s = record { atoms = n; weights = s.weights; dos = s.dos; selects = s.selects; revises = s.revises; begin = s.begin }
add (action_said w) s = record { atoms = s.atoms; weights = w ∷ s.weights; dos = s.dos; selects = s.selects; revises = s.revises; begin = s.begin }
add (do_said d) s = record { atoms = s.atoms; weights = s.weights; dos = d ∷ s.dos; selects = s.selects; revises = s.revises; begin = s.begin }
add (select_said d) s = record { atoms = s.atoms; weights = s.weights; dos = s.dos; selects = d ∷ s.selects; revises = s.revises; begin = s.begin }
add (revise_said r) s = record { atoms = s.atoms; weights = s.weights; dos = s.dos; selects = s.selects; revises = r ∷ s.revises; begin = s.begin }
add (begin_said b) s = record { atoms = s.atoms; weights = s.weights; dos = s.dos; selects = s.selects; revises = s.revises; begin = b }

-- what items say together
unfoldable pub said_by : List Item → Said
said_by [] = record { atoms = 0; weights = []; dos = []; selects = []; revises = []; begin = record { beliefs = []; goals = []; plan = [] } }
said_by (i ∷ is) = add i (said_by is)

module _ (b : Begin) where
  -- lines from a kind on
  from_revises : List Revise → Said
  from_revises rs = record { atoms = 0; weights = []; dos = []; selects = []; revises = rs; begin = b }

  from_selects : List Select → List Revise → Said
  from_selects ss rs = record { atoms = 0; weights = []; dos = []; selects = ss; revises = rs; begin = b }

  from_dos : List Do → List Select → List Revise → Said
  from_dos ds ss rs = record { atoms = 0; weights = []; dos = ds; selects = ss; revises = rs; begin = b }

  from_actions : List ℕ → List Do → List Select → List Revise → Said
  from_actions ws ds ss rs = record { atoms = 0; weights = ws; dos = ds; selects = ss; revises = rs; begin = b }

  revises_by : (rs : List Revise) → said_by (map revise_said rs ++ (begin_said b ∷ [])) ≡ from_revises rs
  unfolding said_by add from_revises
  revises_by [] = refl
  revises_by (r ∷ rs) = ap (add (revise_said r)) (revises_by rs)

  module _ (rs : List Revise) (is : List Item) (e : said_by is ≡ from_revises rs) where
    selects_by : (ss : List Select) → said_by (map select_said ss ++ is) ≡ from_selects ss rs
    unfolding said_by add from_revises from_selects
    selects_by [] = e
    selects_by (s ∷ ss) = ap (add (select_said s)) (selects_by ss)

  module _ (ss : List Select) (rs : List Revise) (is : List Item) (e : said_by is ≡ from_selects ss rs) where
    dos_by : (ds : List Do) → said_by (map do_said ds ++ is) ≡ from_dos ds ss rs
    unfolding said_by add from_selects from_dos
    dos_by [] = e
    dos_by (d ∷ ds) = ap (add (do_said d)) (dos_by ds)

  module _ (ds : List Do) (ss : List Select) (rs : List Revise) (is : List Item) (e : said_by is ≡ from_dos ds ss rs) where
    actions_by : (ws : List ℕ) → said_by (map action_said ws ++ is) ≡ from_actions ws ds ss rs
    unfolding said_by add from_dos from_actions
    actions_by [] = e
    actions_by (w ∷ ws) = ap (add (action_said w)) (actions_by ws)

pub said_by_lem : (s : Said) → said_by (items_said s) ≡ s
unfolding said_by add from_actions
said_by_lem s =
    let b = s.begin in
    let revises = revises_by b s.revises in
    let selects = selects_by b s.revises _ revises s.selects in
    let dos = dos_by b s.selects s.revises _ selects s.dos in
    ap (add (atoms_said s.atoms)) (actions_by b s.dos s.selects s.revises _ dos s.weights)
