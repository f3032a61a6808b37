use mathlib.Core.Path.{◌≡◌, sym, ◌∙◌, ap, subst}
use mathlib.Core.Bool.{true}
use mathlib.Core.List.{List}
use Prim.Native.Nat.{ℕ}
use Rattle.basics.specs.TestLaws.{clash}
use Rattle.type_text.specs.Grammar.{is_name}
use Rattle.type_words.specs.Told.{BasicTold}
use Rattle.type_reading.specs.Tables.{word_from, declared_names}
use Rattle.type_reading.specs.WordLaws.{word-part}
use Rattle.type_reading.proofs.Beginnings.{new-unnamed, new-basic, not-basic, new-type, found-among}
use Rattle.type_reading.proofs.is_new_type.Goals.{then-is_name, else-is_name}
use Rattle.type_reading.proofs.is_new_type.Goals as goal

pub returns-then-is_none : goal.returns-then-is_none
returns-then-is_none c =
    let types = declared_names c.args.text.now c.args.table.now c.args.n in
    let v = word_from c.args.text.now c.args.p in
    let w = word-part c.args.text.now c.args.p c.args.q c.requires.0 in
    elim c.if-is_name.branch [
      | then-is_name b ↦
          let named : is_name v ≡ true = ap is_name (sym w) ∙ sym c.is_name.ensures ∙ b.if-is_name.true in
          let told = subst (λ (x : List ℕ). BasicTold x b.basic_named.result) w b.basic_named.ensures in
          new-type types v named c.find_type.result c.is_none-then-is_none.ensures
          (not-basic types v named b.basic_named.result b.is_none.ensures told (sym b.value-is ∙ c.if-is_none.true))
          (found-among c.args.text.now c.args.table.now c.args.n v c.find_type.result c.find_type.ensures)
      | else-is_name b ↦ absurd (clash c.if-is_none.true (b.value-is ∙ b.if-is_name.false))
    ]

pub returns-else-is_none : goal.returns-else-is_none
returns-else-is_none c =
    let types = declared_names c.args.text.now c.args.table.now c.args.n in
    let v = word_from c.args.text.now c.args.p in
    let w = word-part c.args.text.now c.args.p c.args.q c.requires.0 in
    elim c.if-is_name.branch [
      | then-is_name b ↦
          let named : is_name v ≡ true = ap is_name (sym w) ∙ sym c.is_name.ensures ∙ b.if-is_name.true in
          let told = subst (λ (x : List ℕ). BasicTold x b.basic_named.result) w b.basic_named.ensures in
          c.if-is_none.false ∙ new-basic types v named b.basic_named.result b.is_none.ensures told (sym b.value-is ∙ c.if-is_none.false)
      | else-is_name b ↦ c.if-is_none.false ∙ new-unnamed types v (ap is_name (sym w) ∙ sym c.is_name.ensures ∙ b.if-is_name.false)
    ]
