-- The answers of the cycle of calls {read_and_list, read_or_list, read_unit}. A unit is below an and-list and this below an
-- or-list, and what `!` and brackets lead to has one less left. The loops' invariant is that a list is read up to its next
-- member, which stands at the place (`Before`).
use Rattle.conditions.proofs.Told.{Told, told_at, told_nested, nested_told}
use Rattle.conditions.proofs.Units.{unit_over, unit_deep, not_nested, read_not, brackets_nested, read_brackets}
use Rattle.conditions.proofs.Lists.{BehindMember, and_kind, or_kind, list_starts, list_joined, list_nested, list_on, list_stops}
use Rattle.notation.specs.Values.{unit_of, and_list_of, or_list_of}
use Rattle.std.proofs.Common.{◌+◌, ◌-◌, ◌<◌, length, drop, refl, sym, ◌∙◌, arith}
use Rattle.conditions.proofs.read.+condition.Goals as goal

pub read_and_list-loop-unit-init : goal.read_and_list-loop-unit-init
read_and_list-loop-unit-init t c =
    let p = c.requires.nodes_len in
    list_starts _ _ _ _ _ c.requires.at_in_bounds p.1 p.0

pub read_and_list-loop-unit-preserved : goal.read_and_list-loop-unit-preserved
read_and_list-loop-unit-preserved t c =
    let a = c.args in
    let s = c.loop-unit in
    let put = c.put_member-count.ensures in
    let r = c.in_ok-unit.unit in
    let told : Told a.text.now s.place s.nodes s.count (unit_of a.left (drop s.place a.text.now)) r.next r.count c.read_unit.new.nodes = told_at _ _ _ _ _ _ _ c.in_ok-unit.ensures in
    let behind : BehindMember (and_kind a.left) a.text.now a.at a.k a.nodes.now r.next c.put_member-count.result c.put_member-count.new.nodes = list_joined _ _ _ _ _ _ _ _ _ s.invariant _ _ _ _ _ told put.upper_bound put.nodes_len_2 put.nodes_after in
    list_on _ _ _ _ _ _ _ _ behind (sym c.comes.ensures ∙ c.if-not-comes.false)

pub read_and_list-returns-then-not-comes : goal.read_and_list-returns-then-not-comes
read_and_list-returns-then-not-comes t c =
    let a = c.args in
    let s = c.loop-unit in
    let put = c.put_member-count.ensures in
    let r = c.in_ok-unit.unit in
    let told : Told a.text.now s.place s.nodes s.count (unit_of a.left (drop s.place a.text.now)) r.next r.count c.read_unit.new.nodes = told_at _ _ _ _ _ _ _ c.in_ok-unit.ensures in
    let behind : BehindMember (and_kind a.left) a.text.now a.at a.k a.nodes.now r.next c.put_member-count.result c.put_member-count.new.nodes = list_joined _ _ _ _ _ _ _ _ _ s.invariant _ _ _ _ _ told put.upper_bound put.nodes_len_2 put.nodes_after in
    list_stops _ _ _ _ _ _ _ _ behind c.requires.nodes_len.0 (sym c.comes.ensures ∙ c.if-not-comes.true)

pub read_and_list-returns-in_err-unit : goal.read_and_list-returns-in_err-unit
read_and_list-returns-in_err-unit t c =
    let a = c.args in
    let s = c.loop-unit in
    let r = told_nested a.text.now s.place s.nodes s.count c.read_unit.new.nodes (unit_of a.left (drop s.place a.text.now)) _ c.in_err-unit.ensures in
    list_nested _ _ _ _ _ _ _ _ _ s.invariant c.requires.nodes_len.0 _ c.from_residual.result c.from_residual.ensures.0 r.0 r.1

pub read_or_list-loop-list-init : goal.read_or_list-loop-list-init
read_or_list-loop-list-init t c =
    let p = c.requires.nodes_len in
    list_starts _ _ _ _ _ c.requires.at_in_bounds p.1 p.0

pub read_or_list-loop-list-preserved : goal.read_or_list-loop-list-preserved
read_or_list-loop-list-preserved t c =
    let a = c.args in
    let s = c.loop-list in
    let put = c.put_member-count.ensures in
    let r = c.in_ok-list.list in
    let told : Told a.text.now s.place s.nodes s.count (and_list_of a.left (drop s.place a.text.now)) r.next r.count c.read_and_list.new.nodes = told_at _ _ _ _ _ _ _ c.in_ok-list.ensures in
    let behind : BehindMember (or_kind a.left) a.text.now a.at a.k a.nodes.now r.next c.put_member-count.result c.put_member-count.new.nodes = list_joined _ _ _ _ _ _ _ _ _ s.invariant _ _ _ _ _ told put.upper_bound put.nodes_len_2 put.nodes_after in
    list_on _ _ _ _ _ _ _ _ behind (sym c.comes.ensures ∙ c.if-not-comes.false)

pub read_or_list-returns-then-not-comes : goal.read_or_list-returns-then-not-comes
read_or_list-returns-then-not-comes t c =
    let a = c.args in
    let s = c.loop-list in
    let put = c.put_member-count.ensures in
    let r = c.in_ok-list.list in
    let told : Told a.text.now s.place s.nodes s.count (and_list_of a.left (drop s.place a.text.now)) r.next r.count c.read_and_list.new.nodes = told_at _ _ _ _ _ _ _ c.in_ok-list.ensures in
    let behind : BehindMember (or_kind a.left) a.text.now a.at a.k a.nodes.now r.next c.put_member-count.result c.put_member-count.new.nodes = list_joined _ _ _ _ _ _ _ _ _ s.invariant _ _ _ _ _ told put.upper_bound put.nodes_len_2 put.nodes_after in
    list_stops _ _ _ _ _ _ _ _ behind c.requires.nodes_len.0 (sym c.comes.ensures ∙ c.if-not-comes.true)

pub read_or_list-returns-in_err-list : goal.read_or_list-returns-in_err-list
read_or_list-returns-in_err-list t c =
    let a = c.args in
    let s = c.loop-list in
    let r = told_nested a.text.now s.place s.nodes s.count c.read_and_list.new.nodes (and_list_of a.left (drop s.place a.text.now)) _ c.in_err-list.ensures in
    list_nested _ _ _ _ _ _ _ _ _ s.invariant c.requires.nodes_len.0 _ c.from_residual.result c.from_residual.ensures.0 r.0 r.1

pub read_unit-returns-then-at-text : goal.read_unit-returns-then-at-text
read_unit-returns-then-at-text t c =
    let a = c.args in
    nested_told a.text.now a.at a.nodes.now a.k a.nodes.now (unit_of a.left (drop a.at a.text.now)) _ refl
    (unit_over a.text.now a.at a.left c.if-at-text.true) refl

pub read_unit-returns-then-left-eq0 : goal.read_unit-returns-then-left-eq0
read_unit-returns-then-left-eq0 t c =
    let a = c.args in
    let p = c.requires.at_in_bounds in
    let l = c.if-at-text.false in
    let h : a.at < length a.text.now = omega arith in
    nested_told a.text.now a.at a.nodes.now a.k a.nodes.now (unit_of a.left (drop a.at a.text.now)) _ refl
    (unit_deep a.text.now a.at a.left h (sym c.is_leaf.ensures ∙ c.if-is_leaf.false) c.if-left-eq0.true) refl

pub read_unit-returns-in_err-unit : goal.read_unit-returns-in_err-unit
read_unit-returns-in_err-unit t c =
    let a = c.args in
    let p = c.requires.at_in_bounds in
    let l = c.if-at-text.false in
    let h : a.at < length a.text.now = omega arith in
    let r = told_nested a.text.now (a.at + 1) a.nodes.now a.k c.read_unit.new.nodes (unit_of (a.left - 1) (drop (a.at + 1) a.text.now)) _ c.in_err-unit.ensures in
    nested_told a.text.now a.at a.nodes.now a.k c.read_unit.new.nodes (unit_of a.left (drop a.at a.text.now)) c.from_residual.result c.from_residual.ensures.0
    (not_nested a.text.now a.at a.left h c.if-left-eq0.false a.nodes.now a.k c.if-x-eq33.true r.0) r.1

pub read_unit-returns-then-x-eq33 : goal.read_unit-returns-then-x-eq33
read_unit-returns-then-x-eq33 t c =
    let a = c.args in
    let p = c.requires.at_in_bounds in
    let l = c.if-at-text.false in
    let h : a.at < length a.text.now = omega arith in
    let put = c.put_not.ensures in
    let told = told_at a.text.now (a.at + 1) a.nodes.now a.k c.read_unit.new.nodes (unit_of (a.left - 1) (drop (a.at + 1) a.text.now)) c.in_ok-unit.unit c.in_ok-unit.ensures in
    read_not a.text.now a.at a.left h c.if-left-eq0.false a.nodes.now a.k c.if-x-eq33.true c.read_unit.new.nodes c.put_not.new.nodes _ _ c.put_not.result
    c.requires.nodes_len.0 told put.upper_bound put.nodes_len_2 put.nodes_after

pub read_unit-returns-in_err-list : goal.read_unit-returns-in_err-list
read_unit-returns-in_err-list t c =
    let a = c.args in
    let p = c.requires.at_in_bounds in
    let l = c.if-at-text.false in
    let h : a.at < length a.text.now = omega arith in
    let r = told_nested a.text.now (a.at + 1) a.nodes.now a.k c.read_or_list.new.nodes (or_list_of (a.left - 1) (drop (a.at + 1) a.text.now)) _ c.in_err-list.ensures in
    nested_told a.text.now a.at a.nodes.now a.k c.read_or_list.new.nodes (unit_of a.left (drop a.at a.text.now)) c.from_residual-in_err-list.result c.from_residual-in_err-list.ensures.0
    (brackets_nested a.text.now a.at a.left h c.if-left-eq0.false a.nodes.now a.k (sym c.is_leaf.ensures ∙ c.if-is_leaf.false) c.if-x-eq33.false r.0) r.1

pub read_unit-returns : goal.read_unit-returns
read_unit-returns t c =
    let a = c.args in
    let p = c.requires.at_in_bounds in
    let l = c.if-at-text.false in
    let h : a.at < length a.text.now = omega arith in
    let told = told_at a.text.now (a.at + 1) a.nodes.now a.k c.read_or_list.new.nodes (or_list_of (a.left - 1) (drop (a.at + 1) a.text.now)) c.in_ok-list.list c.in_ok-list.ensures in
    read_brackets a.text.now a.at a.left h c.if-left-eq0.false a.nodes.now a.k (sym c.is_leaf.ensures ∙ c.if-is_leaf.false) c.if-x-eq33.false c.read_or_list.new.nodes _ _ c.behind_byte.result
    told c.behind_byte.ensures
