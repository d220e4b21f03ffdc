-- Cases of edition 2 (02, Wish 9), computed: on the left what a call answers, on the right what the request says. The card is that
-- of 01, "The stripe card", in edition 2, with 200 atoms, and with atom 199 in the place of 3, "broken".
use Rattle.std.specs.Prelude.{◌≡◌, ℕ, length, take, drop, replicate}
use mathlib.Core.List.{List, [], ◌∷◌, ◌++◌, map, flatten}
use Rattle.meaning.specs.declared.Configuration.{Configuration}
use Rattle.meaning.specs.Card.{Bytes, part}
use Rattle.meaning.specs.Place.{two_bytes}
use Rattle.meaning.specs.Refusals.{answer_number}
use Rattle.meaning.specs.Numbers.{checked_number}
use Rattle.meaning.specs.Calls.{checks, loads, grades, runs, nexts, saves, save_leaves, restores}
use Rattle.meaning.specs.Stripe.{set, stripe}
use Rattle.meaning.specs.Cases.{shown, shown_check, shown_reply, shown_grade, shown_written, shown_run, configuration, place_p7}

-- A set in 32 bytes by its bytes 0 and 24: 01, "The card, edition 1": "atom k is bit (k modulo 8) of byte (k divided by 8)": atom
-- 199 is bit 7 of byte 24.
unfoldable pub wide_set : ℕ → ℕ → Bytes
wide_set low high = low ∷ (replicate 23 0 ++ (high ∷ replicate 7 0))

-- "action, node, 0, 0, Add, Del", in 68 bytes; Add is of atoms below 8.
unfoldable pub wide_specification : ℕ → ℕ → ℕ → Bytes → Bytes
wide_specification action node add del = action ∷ node ∷ 0 ∷ 0 ∷ (wide_set add 0 ++ del)

-- The stripe card in edition 2 with a number of atoms. Its weights, rules and pool are those of edition 1.
unfoldable pub jacquard : ℕ → Bytes
jacquard atoms =
    0x33 ∷ 0x41
    -- edition, atoms, actions, then the sections: six nodes, three specifications, a selection rule, three revision rules, the pool
    ∷ (flatten (map two_bytes (2 ∷ atoms ∷ 5 ∷ 6 ∷ 106 ∷ 3 ∷ 130 ∷ 1 ∷ 334 ∷ 3 ∷ 342 ∷ 5 ∷ 378 ∷ 0 ∷ 0 ∷ []))
    -- initial beliefs {0, 199} and goals {2}, at 32 and 64
    ++ (wide_set 1 128 ++ (wide_set 4 0
    -- weights, at 96, and nodes, but that node 2 believes 199
    ++ (part stripe 64 19 ++ (199 ∷ (part stripe 84 14
    -- weave if node 4, Add {2}, Del {1}; wind if true, Add {1}; repair if node 2, Del {199}
    ++ (wide_specification 0 4 4 (wide_set 2 0) ++ (wide_specification 1 0 2 (wide_set 0 0) ++ (wide_specification 2 2 0 (wide_set 0 128)
    -- rules and pool
    ++ drop 206 stripe)))))))))

-- The jacquard card loaded, and after a number of the guide's own transitions.
unfoldable pub jacquard_after : ℕ → Configuration
jacquard_after n = (runs (jacquard 200) (loads (jacquard 200)).configuration n).configuration

-- 01, P7, of this card: 33 50 02 00 02 00 4C 00 00 00 00 00, then beliefs {0, 1, 199}, goals {2}, 02 00; with an edition.
unfoldable pub jacquard_place : ℕ → Bytes
jacquard_place edition =
    0x33 ∷ 0x50 ∷ edition ∷ 0x00 ∷ 0x02 ∷ 0x00 ∷ 0x4C ∷ 0x00 ∷ 0x00 ∷ 0x00 ∷ 0x00 ∷ 0x00
    ∷ (wide_set 3 128 ++ (wide_set 4 0 ++ (0x02 ∷ 0x00 ∷ [])))

-- What check answers of the first bytes of a file, by how many there are of them.
unfoldable pub shown_first : Bytes → List ℕ → List ℕ
shown_first b ns = map (λ n. checked_number (checks (take n b))) ns

-- The same of restore, under the jacquard card; its number alone.
unfoldable pub restored_first : Bytes → List ℕ → List ℕ
restored_first p ns = map (λ n. answer_number (restores (jacquard 200) (take n p)).answer) ns

-- A file with another second byte.
unfoldable pub mis_marked : Bytes → Bytes
mis_marked b = 0x33 ∷ 0x42 ∷ drop 2 b

-- A card with another number of atoms, below 256.
unfoldable pub with_atoms : ℕ → Bytes → Bytes
with_atoms n b = take 4 b ++ (n ∷ 0 ∷ drop 6 b)

-- A configuration that believes atom 128, bit 0 of byte 16, and nothing else.
unfoldable pub believing128 : Configuration
believing128 = configuration (replicate 16 0 ++ (1 ∷ replicate 15 0)) (set 0) 0 []

pub record Edition2Cases : Type 0 where
  -- 96 + 10 + 24 + 204 + 8 + 36 + 5 bytes; it is accepted, and bounded
  pub accepted : length (jacquard 200) ∷ (shown_check (checks (jacquard 200)) ++ shown_grade (grades (jacquard 200)))
      ≡ 383 ∷ 0 ∷ 0 ∷ 0 ∷ 0 ∷ 0 ∷ []
  -- "Jacquard cards need 256 atoms.": 256 are accepted, 257 are 3; of 199, atom 199 is none: node 2 is 6.
  pub atoms_256 : shown_check (checks (jacquard 256)) ≡ 0 ∷ []
  pub atoms_257 : shown_check (checks (jacquard 257)) ≡ 3 ∷ []
  pub atoms_199 : shown_check (checks (jacquard 199)) ≡ 6 ∷ []
  -- 01, "The card, edition 1": "atoms", "1..128"
  pub edition1_128 : shown_check (checks (with_atoms 128 stripe)) ≡ 0 ∷ []
  pub edition1_129 : shown_check (checks (with_atoms 129 stripe)) ≡ 3 ∷ []
  -- 01, P1, of this card: "The six steps above end with beliefs {0, 2}, no goals, phase 2."
  pub six_steps : shown_run (runs (jacquard 200) (loads (jacquard 200)).configuration 1000) ≡ 0 ∷ 1 ∷ 6 ∷ (set 5 ++ (set 0 ++ (2 ∷ [])))
  -- "a place's plan starts at 76", "a place is saved in its card's edition"; the lent buffer has a byte more, which stays
  pub saved : (let c = jacquard_after 4 in let out = replicate 79 0xEE in shown_written (saves (jacquard 200) c out) (save_leaves (jacquard 200) c out))
      ≡ 0 ∷ 78 ∷ (jacquard_place 2 ++ (0xEE ∷ []))
  pub restored : shown_reply (restores (jacquard 200) (jacquard_place 2)) ≡ 0 ∷ shown (jacquard_after 4)
  -- "A place whose edition isn't its card's is met with refusal 2.": one of edition 1 under this card, one of edition 2 under the
  -- stripe card, and this card's with edition 1 at 2
  pub place_of_1 : shown_reply (restores (jacquard 200) (place_p7 0)) ≡ 2 ∷ (set 0 ++ (set 0 ++ (0 ∷ [])))
  pub place_of_2 : shown_reply (restores stripe (jacquard_place 2)) ≡ 2 ∷ (set 0 ++ (set 0 ++ (0 ∷ [])))
  pub place_said_1 : shown_reply (restores (jacquard 200) (jacquard_place 1)) ≡ 2 ∷ (set 0 ++ (set 0 ++ (0 ∷ [])))
  -- "a file under 4 bytes is 1, …, then one shorter than its edition's header is 1"; from there on it is 4, "the total length"
  pub short_2 : shown_first (jacquard 200) (3 ∷ 4 ∷ 63 ∷ 64 ∷ 95 ∷ 96 ∷ []) ≡ 1 ∷ 1 ∷ 1 ∷ 1 ∷ 1 ∷ 4 ∷ []
  pub short_1 : shown_first stripe (3 ∷ 4 ∷ 63 ∷ 64 ∷ 95 ∷ []) ≡ 1 ∷ 1 ∷ 1 ∷ 4 ∷ 4 ∷ []
  -- "a file under 4 bytes is 1, then a wrong mark or edition is 2"
  pub wrong_mark : shown_first (mis_marked stripe) (3 ∷ 4 ∷ 63 ∷ 64 ∷ 95 ∷ []) ≡ 1 ∷ 2 ∷ 2 ∷ 2 ∷ 2 ∷ []
  pub edition_3 : shown_first (0x33 ∷ 0x41 ∷ 3 ∷ 0 ∷ drop 4 (jacquard 200)) (3 ∷ 4 ∷ 95 ∷ 383 ∷ []) ≡ 1 ∷ 2 ∷ 2 ∷ 2 ∷ []
  -- the same of a place
  pub short_place : restored_first (jacquard_place 2) (3 ∷ 4 ∷ 44 ∷ 75 ∷ 76 ∷ []) ≡ 1 ∷ 1 ∷ 1 ∷ 1 ∷ 4 ∷ []
  pub wrong_place : restored_first (jacquard_place 1) (3 ∷ 4 ∷ 75 ∷ []) ≡ 1 ∷ 2 ∷ 2 ∷ []
  -- 01, "Numbers the guide may answer", row 13: "an action or atom unknown to the card"
  pub unknown_atom : answer_number (nexts stripe believing128).answer ≡ 13
  pub unknown_to_128 : answer_number (nexts (with_atoms 128 stripe) believing128).answer ≡ 13
  pub known_atom : answer_number (nexts (jacquard 200) believing128).answer ≡ 0
