use mathlib.Core.Path.{refl, sym, ap, subst}
use mathlib.Core.List.{List}
use mathlib.Core.Logic.{inl}
use native.Mathlib.Omega.{arith}
use borrow.Author.Rules.{rules}
use Prim.Native.Nat.{ℕ, ◌-◌}
use Rattle.std.specs.Prelude.{Ok, Err}
use Rattle.type_text.specs.Spelling.{closing}
use Rattle.type_text.specs.Reader.{next_is, after_next}
use Rattle.std.proofs.lemmas.Result.{err_from_is_err_and}
use Rattle.type_reading.specs.Tables.{seen_names}
use Rattle.type_reading.specs.Readings.{ListTold, TreeTold}
use Rattle.type_reading.specs.ReadingLaws.{list-none, list-bad, list-side-bad, list-rest-bad, list-next, side-bad, side-leaf, side-known, side-list-bad, side-open, side-closed}
use Rattle.type_reading.proofs.Beginnings.{stack-kept}
use Rattle.type_reading.proofs.Lists.{kept-both, kept_under, none_seen, next-seen, allowed-named}
use Rattle.type_reading.proofs.+read_list_read_tree.Goals as goal

pub read_list-read_tree-requires : goal.read_list-read_tree-requires
read_list-read_tree-requires t c =
    let begun = rw c.in-Some.is at c.in_ok-a.ensures.told in (
      omega (arith, c.requires, begun.far, begun.onward.inside),
      (
        (begun.onward.inside, search rules, omega (arith, c.requires, c.child_at.ensures.kept.size), omega (arith, c.requires, begun.far)),
        c.requires.1,
        inl refl,
      ),
    )

pub read_list-read_list-requires : goal.read_list-read_list-requires
read_list-read_list-requires t c =
    let begun = rw c.in-Some.is at c.in_ok-a.ensures.told in
    let side = c.in_ok-b.ensures.told in (
      omega (arith, c.requires, begun.far, side.far, side.onward.inside),
      (
        (side.onward.inside, search rules, omega (arith, c.requires, c.child_at.ensures.kept.size, c.read_tree.ensures.kept.size), omega (arith, c.requires, begun.far, side.far)),
        c.requires.1,
        omega (arith, c.requires),
      ),
    )

pub read_list-joined-requires : goal.read_list-joined-requires
read_list-joined-requires t c =
    let side = c.in_ok-b.ensures.told in
    let list = c.in_ok-q.ensures.told in
    (omega (arith, side.many), omega (arith, list.many), omega (arith, side.deep), omega (arith, list.deep))

pub read_list-returns-in_default : goal.read_list-returns-in_default
read_list-returns-in_default t c =
    let k = c.args.top - c.args.base in
    record {
      told = list-none c.args.text.now c.args.at c.args.stack.now c.child_at.new.stack c.args.base k c.args.table.now c.args.n (search rules) (rw c.in_default.is at c.in_ok-a.ensures.told);
      kept = c.child_at.ensures.kept;
    }

pub read_list-returns-in_err-a : goal.read_list-returns-in_err-a
read_list-returns-in_err-a t c =
    let k = c.args.top - c.args.base in
    let r = err_from_is_err_and c.from_residual.result c.from_residual.ensures.1 in
    record {
      told = rw (r.1, r.2) (list-bad c.args.text.now c.args.at c.args.stack.now c.child_at.new.stack c.args.base k c.args.table.now c.args.n c.in_err-a.field-0.0 c.in_err-a.ensures.told);
      kept = c.child_at.ensures.kept;
    }

pub read_list-returns-in_err-b : goal.read_list-returns-in_err-b
read_list-returns-in_err-b t c =
    let k = c.args.top - c.args.base in
    let begun = rw c.in-Some.is at c.in_ok-a.ensures.told in
    let r = err_from_is_err_and c.from_residual-in_err-b.result c.from_residual-in_err-b.ensures.1 in
    record {
      told = rw (r.1, r.2) (list-side-bad c.args.text.now c.args.at c.args.stack.now c.child_at.new.stack c.args.base k c.args.table.now c.args.n c.in-Some.a begun c.in_err-b.field-0.0 c.in_err-b.ensures.told);
      kept = kept-both c.child_at.ensures.kept (kept_under c.args.top c.read_tree.ensures.kept);
    }

pub read_list-returns-in_err-q : goal.read_list-returns-in_err-q
read_list-returns-in_err-q t c =
    let k = c.args.top - c.args.base in
    let begun = rw c.in-Some.is at c.in_ok-a.ensures.told in
    let seen = next-seen c.args.text.now c.child_at.new.stack c.read_tree.new.stack c.args.base c.args.top c.requires.2 c.read_tree.ensures.kept in
    let list = subst (λ (x : List (List ℕ)). ListTold c.args.text.now c.in_ok-b.b c.args.table.now c.args.n x (Err c.in_err-q.field-0.0)) seen c.in_err-q.ensures.told in
    let r = err_from_is_err_and c.from_residual-in_err-q.result c.from_residual-in_err-q.ensures.1 in
    record {
      told = rw (r.1, r.2) (list-rest-bad c.args.text.now c.args.at c.args.stack.now c.child_at.new.stack c.args.base k c.args.table.now c.args.n c.in-Some.a begun
          c.in_ok-b.b c.in_ok-b.nodes c.in_ok-b.levels c.in_ok-b.ensures.told c.in_err-q.field-0.0 list);
      kept = kept-both c.child_at.ensures.kept (kept_under c.args.top (kept-both c.read_tree.ensures.kept c.read_list.ensures.kept));
    }

pub read_list-returns : goal.read_list-returns
read_list-returns t c =
    let k = c.args.top - c.args.base in
    let begun = rw c.in-Some.is at c.in_ok-a.ensures.told in
    let seen = next-seen c.args.text.now c.child_at.new.stack c.read_tree.new.stack c.args.base c.args.top c.requires.2 c.read_tree.ensures.kept in
    let list = subst (λ (x : List (List ℕ)). ListTold c.args.text.now c.in_ok-b.b c.args.table.now c.args.n x (Ok (c.in_ok-q.q, c.in_ok-q.more, c.in_ok-q.deeper))) seen c.in_ok-q.ensures.told in
    record {
      told = subst (λ (x : ℕ × ℕ × ℕ). ListTold c.args.text.now c.args.at c.args.table.now c.args.n (seen_names c.args.text.now c.args.stack.now c.args.base k) (Ok x)) (sym c.joined.ensures)
          (list-next c.args.text.now c.args.at c.args.stack.now c.child_at.new.stack c.args.base k c.args.table.now c.args.n c.in-Some.a begun
          c.in_ok-b.b c.in_ok-b.nodes c.in_ok-b.levels c.in_ok-b.ensures.told c.in_ok-q.q c.in_ok-q.more c.in_ok-q.deeper list _ _ refl refl);
      kept = kept-both c.child_at.ensures.kept (kept_under c.args.top (kept-both c.read_tree.ensures.kept c.read_list.ensures.kept));
    }

pub read_tree-side_at-requires : goal.read_tree-side_at-requires
read_tree-side_at-requires t c =
    let names = allowed-named c.args.text.now c.args.table.now c.args.allowed c.args.n c.requires.2 c.requires.1 in
    (search rules, names.0, names.1)

pub read_tree-known-requires : goal.read_tree-known-requires
read_tree-known-requires t c =
    let name = rw c.in-Known.is at c.in_ok-q.ensures in
    let names = allowed-named c.args.text.now c.args.table.now c.args.allowed c.args.n c.requires.2 c.requires.1 in
    omega (arith, name.below, names.0)

pub read_tree-read_list-requires : goal.read_tree-read_list-requires
read_tree-read_list-requires t c =
    let brace = rw c.in-Braces.is at c.in_ok-q.ensures in (
      omega (arith, c.requires, brace.far, brace.onward.inside),
      (
        (brace.onward.inside, search rules, search rules, omega (arith, c.requires, brace.far)),
        c.requires.1,
        omega arith,
      ),
    )

pub read_tree-returns-in-Known : goal.read_tree-returns-in-Known
read_tree-returns-in-Known t c =
    let name = rw c.in-Known.is at c.in_ok-q.ensures in
    record {
      told = subst (λ (x : ℕ × ℕ × ℕ). TreeTold c.args.text.now c.args.at c.args.table.now c.args.allowed c.args.n (Ok x)) (sym c.known.ensures)
          (side-known c.args.text.now c.args.at c.args.table.now c.args.allowed c.args.n c.in-Known.q c.in-Known.i _ _ c.requires.2 name refl refl);
      kept = stack-kept c.args.stack.now c.args.top;
    }

pub read_tree-returns-in-Leaf : goal.read_tree-returns-in-Leaf
read_tree-returns-in-Leaf t c = record {
  told = side-leaf c.args.text.now c.args.at c.args.table.now c.args.allowed c.args.n c.in-Leaf.q c.in-Leaf.field-1 (rw c.in-Leaf.is at c.in_ok-q.ensures);
  kept = stack-kept c.args.stack.now c.args.top;
}

pub read_tree-returns-in_err-q : goal.read_tree-returns-in_err-q
read_tree-returns-in_err-q t c =
    let r = err_from_is_err_and c.from_residual.result c.from_residual.ensures.1 in
    record { told = rw (r.1, r.2) (side-bad c.args.text.now c.args.at c.args.table.now c.args.allowed c.args.n c.in_err-q.field-0.0 c.in_err-q.ensures); kept = stack-kept c.args.stack.now c.args.top }

pub read_tree-returns-in_err-b-in-Braces : goal.read_tree-returns-in_err-b-in-Braces
read_tree-returns-in_err-b-in-Braces t c =
    let brace = rw c.in-Braces.is at c.in_ok-q.ensures in
    let r = err_from_is_err_and c.from_residual-in_err-b-in-Braces.result c.from_residual-in_err-b-in-Braces.ensures.1 in
    let list = rw none_seen at c.in_err-b-in-Braces.ensures.told in
    record {
      told = rw (r.1, r.2) (side-list-bad c.args.text.now c.args.at c.args.table.now c.args.allowed c.args.n c.in-Braces.a c.in-Braces.field-1 brace c.in_err-b-in-Braces.field-0.0 list);
      kept = c.read_list.ensures.kept;
    }

pub read_tree-returns-in_err-q-in-Braces : goal.read_tree-returns-in_err-q-in-Braces
read_tree-returns-in_err-q-in-Braces t c =
    let brace = rw c.in-Braces.is at c.in_ok-q.ensures in
    let r = err_from_is_err_and c.from_residual-in_err-q-in-Braces.result c.from_residual-in_err-q-in-Braces.ensures.1 in
    let list = rw none_seen at c.in_ok-b-in-Braces.ensures.told in
    let e = c.in_err-q-in-Braces.ensures in
    record {
      told = rw (r.1, r.2, e.1) (side-open c.args.text.now c.args.at c.args.table.now c.args.allowed c.args.n c.in-Braces.a c.in-Braces.field-1 brace
          c.in_ok-b-in-Braces.b c.in_ok-b-in-Braces.nodes c.in_ok-b-in-Braces.levels list e.0);
      kept = c.read_list.ensures.kept;
    }

pub read_tree-returns-in_ok-q-in-Braces : goal.read_tree-returns-in_ok-q-in-Braces
read_tree-returns-in_ok-q-in-Braces t c =
    let brace = rw c.in-Braces.is at c.in_ok-q.ensures in
    let list = rw none_seen at c.in_ok-b-in-Braces.ensures.told in
    let m = c.in_ok-q-in-Braces.ensures in
    record {
      told = side-closed c.args.text.now c.args.at c.args.table.now c.args.allowed c.args.n c.in-Braces.a c.in-Braces.field-1 brace
          c.in_ok-b-in-Braces.b c.in_ok-b-in-Braces.nodes c.in_ok-b-in-Braces.levels list c.in_ok-q-in-Braces.q m.onward (ap (next_is closing) m.is) (ap after_next m.is);
      kept = c.read_list.ensures.kept;
    }
