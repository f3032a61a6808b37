use Rattle.check_listing.proofs.Answers.{few, list-refused, list-small, list_all}
use Rattle.check_listing.proofs.list.Goals as goal

pub returns-in-Err : goal.returns-in-Err
returns-in-Err c =
    let h = list-refused _ (c.check-x.ensures.value, c.check-x.ensures.if_passed) c.in-Err.is c.number_of.ensures in
    record { number_value = h.0; count_value = h.1.0; out_after = h.1.1 }

pub returns-then-out-n : goal.returns-then-out-n
returns-then-out-n c =
    let h = list-small _ (few c.args.file.now) (c.check-x.ensures.value, c.check-x.ensures.if_passed) c.in_default.is c.answer_count-n.ensures c.if-out-n.true in
    record { number_value = h.0; count_value = h.1.0; out_after = h.1.1 }

pub returns : goal.returns
returns c =
    let h = list_all _ (few c.args.file.now) (c.check-x.ensures.value, c.check-x.ensures.if_passed) c.in_default.is c.answer_count-n.ensures c.if-out-n.false
    c.put_pair-a.ensures c.put_pair-b.ensures c.put_pair-c.ensures c.put_pair.ensures in
    record { number_value = h.0; count_value = h.1.0; out_after = h.1.1 }
