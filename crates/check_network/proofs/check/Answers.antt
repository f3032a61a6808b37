use Rattle.std.specs.Prelude.{refl}
use Rattle.check_network.proofs.AnswerLaws.{file-form, form-shaped, file-services, file-shaped, file-operations, file-accepted}
use Rattle.check_network.proofs.check.Goals as goal

pub returns-in-Err-clause-value : goal.returns-in-Err-clause-value
returns-in-Err-clause-value c = file-form _ c.form_of.ensures c.in-Err.is c.verdict_only.ensures

pub returns-in-Err-clause-if_passed : goal.returns-in-Err-clause-if_passed
returns-in-Err-clause-if_passed c = form-shaped _ c.form_of.ensures c.in-Err.is

pub returns-in-Err-verdict-clause-value : goal.returns-in-Err-verdict-clause-value
returns-in-Err-verdict-clause-value c =
    file-services _ c.form_of.ensures c.in_default.is refl c.all_services-all.ensures c.in-Err-verdict.is c.verdict_only-in-Err-verdict.ensures

pub returns-in-Err-verdict-clause-if_passed : goal.returns-in-Err-verdict-clause-if_passed
returns-in-Err-verdict-clause-if_passed c =
    file-shaped _ c.form_of.ensures c.in_default.is refl c.all_services-all.ensures

pub returns-in-Err-operations-clause-value : goal.returns-in-Err-operations-clause-value
returns-in-Err-operations-clause-value c =
    file-operations _ c.form_of.ensures c.in_default.is refl c.all_services-all.ensures c.in_default-verdict.is c.operations.ensures c.in-Err-operations.is c.verdict_only-in-Err-operations.ensures

pub returns-in-Err-operations-clause-if_passed : goal.returns-in-Err-operations-clause-if_passed
returns-in-Err-operations-clause-if_passed c =
    file-shaped _ c.form_of.ensures c.in_default.is refl c.all_services-all.ensures

pub returns-clause-value : goal.returns-clause-value
returns-clause-value c =
    file-accepted _ c.form_of.ensures c.in_default.is refl c.all_services-all.ensures c.in_default-verdict.is c.operations.ensures c.in_default-operations.is

pub returns-clause-if_passed : goal.returns-clause-if_passed
returns-clause-if_passed c = file-shaped _ c.form_of.ensures c.in_default.is refl c.all_services-all.ensures
