use Rattle.std.proofs.Common.{rules, tests, arith, ◌≡◌, ◌∙◌, ◌-◌, length, take, drop, length-drop}
use Rattle.std.proofs.lemmas.List.{take_rest}
use Rattle.std.proofs.lemmas.List.Folds.{length-prefix_len}
use Rattle.std.proofs.lemmas.Iterator.{YieldsList-from_slice}
use Rattle.std.proofs.lemmas.Iterator.Consumers.{count_from_yields_List}
use Rattle.std.proofs.lemmas.Iterator.Search.{YieldsList-from_take_while}
use Rattle.type_text.specs.Spelling.{is_blank}
use Rattle.type_words.specs.Told.{run_of}
use Rattle.type_words.specs.ItemLaws.{run-within}
use Rattle.type_words.proofs.Runs.{run-prefix}
use Rattle.type_words.proofs.skip_blanks.Goals as goal

pub returns : goal.returns
returns c =
    let s = c.args.text.now in
    let rest = take (length s - c.args.at) (drop c.args.at s) in
    let taken = count_from_yields_List c.take_while.result _ c.count.ensures.ran (YieldsList-from_take_while _ is_blank (YieldsList-from_slice rest (cc)) c.take_while.ensures.closure c.take_while.ensures.done (λ x b q k. search (rules, tests))) in
    let run = rw take_rest at (taken ∙ length-prefix_len is_blank rest ∙ run-prefix is_blank rest) in
    (omega (arith), omega (arith, run-within is_blank (drop c.args.at s), length-drop c.args.at s))
