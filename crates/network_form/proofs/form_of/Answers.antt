use Rattle.network_form.proofs.FormLaws.{form-laws}
use Rattle.network_form.proofs.form_of.Goals as goal

pub returns-then-not-laid_out : goal.returns-then-not-laid_out
returns-then-not-laid_out c = search form-laws depth 12

pub returns-then-not-counted : goal.returns-then-not-counted
returns-then-not-counted c = search form-laws depth 12

pub lowest_broken-requires : goal.lowest_broken-requires
lowest_broken-requires c = search form-laws depth 12

pub returns-in-Some : goal.returns-in-Some
returns-in-Some c = search form-laws depth 12

pub lowest_large-requires : goal.lowest_large-requires
lowest_large-requires c = search form-laws depth 12

pub returns-in-Some-lowest_large : goal.returns-in-Some-lowest_large
returns-in-Some-lowest_large c = search form-laws depth 12

pub returns : goal.returns
returns c = search form-laws depth 12
