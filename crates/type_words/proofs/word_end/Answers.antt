use Rattle.std.proofs.Common.{rules, tests, arith, ◌≡◌, ◌∙◌, ◌-◌, length, take, drop, length-drop}
use Rattle.std.proofs.lemmas.List.{take_rest}
use Rattle.std.proofs.lemmas.List.Folds.{length-prefix_len}
use Rattle.std.proofs.lemmas.Iterator.{YieldsList-from_slice}
use Rattle.std.proofs.lemmas.Iterator.Consumers.{count_from_yields_List}
use Rattle.std.proofs.lemmas.Iterator.Search.{YieldsList-from_take_while}
use Rattle.type_text.specs.Spelling.{in_word}
use Rattle.type_words.specs.Told.{run_of}
use Rattle.type_words.specs.ItemLaws.{run-within, word-run}
use Rattle.type_words.proofs.Runs.{run-prefix}
use Rattle.type_words.proofs.word_end.Goals as goal

pub returns : goal.returns
returns c =
    let s = c.args.text.now in
    let rest = take (length s - c.args.p) (drop c.args.p s) in
    let taken = count_from_yields_List c.take_while.result _ c.count.ensures.ran (YieldsList-from_take_while _ in_word (YieldsList-from_slice rest (cc)) c.take_while.ensures.closure c.take_while.ensures.done (λ x b q k. search (rules, tests))) in
    let run = rw take_rest at (taken ∙ length-prefix_len in_word rest ∙ run-prefix in_word rest) in
    (omega (arith, word-run (drop c.args.p s)), omega (arith, run-within in_word (drop c.args.p s), length-drop c.args.p s))
