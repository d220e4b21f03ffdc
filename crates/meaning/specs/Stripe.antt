-- The stripe card (01, "The stripe card"), put together from its parts, and the cards that its P cases vary.
use Rattle.std.specs.Prelude.{[], ◌∷◌, ◌++◌, ℕ, replicate}
use Rattle.meaning.specs.Card.{Bytes}
use Rattle.meaning.specs.Place.{two_bytes}
use Rattle.meaning.specs.Assembled.{assembled}

-- 01, "The card, edition 1": "A set of atoms is 16 bytes": one whose atoms are below 8, by its first byte.
unfoldable pub card_set : ℕ → Bytes
card_set n = n ∷ replicate 15 0

-- The same set, as a configuration holds it.
unfoldable pub set : ℕ → Bytes
set n = n ∷ replicate 31 0

-- 01, "The card, edition 1": "Specification, 36 bytes: action, node, 0, 0, Add, Del."
unfoldable pub specification : ℕ → ℕ → ℕ → ℕ → Bytes
specification action node add del = action ∷ node ∷ 0 ∷ 0 ∷ (card_set add ++ card_set del)

-- 01, "The card, edition 1": "Selection rule, 8 bytes: belief node, goal node, start, length (1..1,024), zero number."
unfoldable pub selection : ℕ → ℕ → ℕ → ℕ → Bytes
selection belief goal start len = belief ∷ goal ∷ (two_bytes start ++ (two_bytes len ++ two_bytes 0))

-- 01, "The card, edition 1": "Revision rule, 12 bytes: node, 0, head start, head length (1..1,024), body start, body length
-- (0..1,024), zero number."
unfoldable pub revision : ℕ → ℕ → ℕ → ℕ → ℕ → Bytes
revision node headStart headLen bodyStart bodyLen =
    node ∷ 0 ∷ (two_bytes headStart ++ (two_bytes headLen ++ (two_bytes bodyStart ++ (two_bytes bodyLen ++ two_bytes 0))))

-- 01, "The stripe card", but for what the cases vary: the weight of weave, node 0, the Del of weave, revision 1 and the pool.
unfoldable pub stripe_with : ℕ → Bytes → ℕ → Bytes → Bytes → Bytes
stripe_with weave node0 del revision1 pool = assembled
    -- 01, "The stripe card": "Atoms: 0 threaded, 1 bobbin, 2 band, 3 broken."
    4
    -- 01, "The stripe card": "Actions: 0 weave, 1 wind, 2 repair, 3 pick, 4 stripe; weights 1, 1, 1, 3, 5."
    (weave ∷ 1 ∷ 1 ∷ 3 ∷ 5 ∷ [])
    -- 01, "The stripe card": "Nodes: 0 true; 1 believes 1; 2 believes 3; 3 not 2; 4 1 and 3; 5 has goal 2."
    (node0 ∷ (1 ∷ 1 ∷ 0 ∷ 0 ∷ []) ∷ (1 ∷ 3 ∷ 0 ∷ 0 ∷ []) ∷ (3 ∷ 2 ∷ 0 ∷ 0 ∷ []) ∷ (4 ∷ 1 ∷ 3 ∷ 0 ∷ []) ∷ (2 ∷ 2 ∷ 0 ∷ 0 ∷ []) ∷ [])
    -- 01, "The stripe card": "Specifications: 0 weave if node 4, Add {2}, Del {1}; 1 wind if true, Add {1}; 2 repair if node 2,
    -- Del {3}."
    (specification 0 4 4 del ∷ specification 1 0 2 0 ∷ specification 2 2 0 8 ∷ [])
    -- 01, "The stripe card": "Selection 0: true, node 5, plan 4."
    (selection 0 5 0 1 ∷ [])
    -- 01, "The stripe card": "Revisions: 0: 4, true, becomes 1 3; 1: 3, node 2, becomes 2 0; 2: 3, node 3, becomes 0."
    (revision 0 0 1 1 2 ∷ revision1 ∷ revision 3 2 1 4 1 ∷ [])
    -- 01, "The stripe card": "Pool 4 1 3 2 0." or what a case has; "Beliefs {0, 3}, goals {2}, no initial plan"
    pool (card_set 9) (card_set 4) 0 0

-- 01, "The stripe card": "Nodes: 0 true"
abbrev true_node : Bytes
true_node = 0 ∷ 0 ∷ 0 ∷ 0 ∷ []

-- 01, "The stripe card": "Pool 4 1 3 2 0."
abbrev its_pool : Bytes
its_pool = 4 ∷ 1 ∷ 3 ∷ 2 ∷ 0 ∷ []

-- 01, "The stripe card": "The card is 255 bytes."
unfoldable pub stripe : Bytes
stripe = stripe_with 1 (true_node) 2 (revision 2 2 1 3 2) its_pool

-- 01, P4: "Add {2}, Del {2}": weave's Del is {2}.
unfoldable pub stripe_P4 : Bytes
stripe_P4 = stripe_with 1 true_node 4 (revision 2 2 1 3 2) its_pool

-- 01, P5: "head 3 0": revision 1's, which stands at the end of a longer pool.
unfoldable pub stripe_P5 : Bytes
stripe_P5 = stripe_with 1 true_node 2 (revision 2 5 2 3 2) (its_pool ++ (3 ∷ 0 ∷ []))

-- 01, P9: "a revision of 3 to the empty body": revision 1.
unfoldable pub stripe_P9 : Bytes
stripe_P9 = stripe_with 1 true_node 2 (revision 2 2 1 3 0) its_pool

-- 01, P10: "Revision 1's body weighing 3": weave weighs 2, and so the body, 2 0, weighs 3.
unfoldable pub stripe_P10 : Bytes
stripe_P10 = stripe_with 2 true_node 2 (revision 2 2 1 3 2) its_pool

-- 01, P13: "Node 0 "not 0""
unfoldable pub stripe_P13 : Bytes
stripe_P13 = stripe_with 1 (3 ∷ 0 ∷ 0 ∷ 0 ∷ []) 2 (revision 2 2 1 3 2) its_pool

-- One with two open choices on a plan of weave: revision 1's head is 0 and its condition node 3; its body is 2 0, as ever. Serves
-- NextCases.
unfoldable pub stripe_two : Bytes
stripe_two = stripe_with 1 true_node 2 (revision 3 4 1 3 2) its_pool
