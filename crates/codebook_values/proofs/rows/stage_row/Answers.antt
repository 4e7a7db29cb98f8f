-- `codebook_values::rows::stage_row` meets its contract: a row that is handed out has ten numbers where its entries fit. Assumes nothing.
use mathlib.Core.Path.{ap, ◌∙◌}
use Rattle.codebook.proofs.Answers.{lsf_row_handed}
use Rattle.codebook_values.specs.Checks.{rows_refusal}
use Rattle.codebook_values.proofs.rows.stage_row.Goals as goal

pub returns-clause-refused : goal.returns-clause-refused
returns-clause-refused c =
    let a = c.args in
    c.ten.ensures.refused ∙ ap rows_refusal (lsf_row_handed a.codebook.now a.stage a.index _ c.requires.whole c.requires.there c.lsf_row.ensures).ten
