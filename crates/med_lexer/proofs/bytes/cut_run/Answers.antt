use Rattle.std.proofs.Common.{subst, ◌∙◌}
use Rattle.med_lexer.proofs.Runs.{IsRun, run_boundary, run_cut}
use Rattle.med_lexer.proofs.bytes.cut_run.Goals as goal

pub split_at-requires : goal.split_at-requires
split_at-requires c =
    let r = subst (λ bs. IsRun c.args.class bs c.run_len.result) c.as_bytes.ensures.value (record { within = c.run_len.ensures.within; all = c.run_len.ensures.all; stops = c.run_len.ensures.stops }) in
    run_boundary c.args.class c.args.text.now c.run_len.result c.utf8.text c.requires r

pub returns : goal.returns
returns c =
    let r = subst (λ bs. IsRun c.args.class bs c.run_len.result) c.as_bytes.ensures.value (record { within = c.run_len.ensures.within; all = c.run_len.ensures.all; stops = c.run_len.ensures.stops }) in
    (λ i. (c.split_at.ensures.front i, c.split_at.ensures.back i)) ∙ run_cut c.args.class c.args.text.now c.run_len.result r
