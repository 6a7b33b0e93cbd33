-- `lookup::bad_record` meets its contract. Assumes nothing.
use Rattle.lookup.proofs.Records.{bad_not, bad_limit, bad_no_table, bad_table}
use Rattle.lookup.proofs.bad_record.Goals as goal

pub returns-then-r-ne-VERSION2 : goal.returns-then-r-ne-VERSION2
returns-then-r-ne-VERSION2 c = bad_not _ c.if-r-ne-VERSION2.true

pub returns-then-r : goal.returns-then-r
returns-then-r c = bad_limit _ c.if-r-ne-VERSION2.false c.if-r.true

pub returns-then-r-eq0 : goal.returns-then-r-eq0
returns-then-r-eq0 c = bad_no_table _ c.if-r-ne-VERSION2.false c.if-r.false c.if-r-eq0.true

pub returns : goal.returns
returns c =
    bad_table _ c.if-r-ne-VERSION2.false c.if-r.false c.if-r-eq0.false
