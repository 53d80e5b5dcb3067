-- `record::job` meets its contract. Assumes nothing.
use Rattle.record.proofs.LayoutLaws.{job-counts, job-refused, whole_says}
use Rattle.repr.proofs.ReadLaws.{passed_on}
use mathlib.Core.Path.{◌∙◌}
use Rattle.record.proofs.job.Goals as goal

pub returns-in_err-n : goal.returns-in_err-n
returns-in_err-n c = rw (passed_on c.from_residual.ensures) (job-refused _ (job-counts c.counts.ensures c.in_err-n.was))

pub returns-in_err-code : goal.returns-in_err-code
returns-in_err-code c = rw (passed_on c.from_residual-in_err-code.ensures) (job-refused _ (job-counts c.counts.ensures c.in_ok-n.was ∙ c.in_err-code.ensures.result))

pub returns : goal.returns
returns c = whole_says _ c.in_ok-code.ensures.result _ (job-counts c.counts.ensures c.in_ok-n.was) c.verdict.ensures
