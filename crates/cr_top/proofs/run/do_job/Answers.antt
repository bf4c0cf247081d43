-- SPDX-License-Identifier: Apache-2.0 OR MIT
use Rattle.std.proofs.Common.{◌≡◌, ◌∙◌, ◌<◌, ◌⊎◌, ℕ, List, [], Some, None, refl, ap, subst, sym, arith}
use Rattle.std.specs.Prelude.{option_map}
use Rattle.cr_base.specs.History.{History}
use Rattle.cr_ports.specs.Count.{Rises}
use Rattle.cr_words.specs.Job.{pipe_job, serve_job, view_job, drill_job, job_seen}
use Rattle.cr_top.specs.declared.exit.Exit.{Exit}
use Rattle.cr_top.specs.declared.exit.Exit.TheVariants as exits
use Rattle.cr_top.specs.Runs.{Outside, ServesPipe, AnswersAll, outside_of}
use Rattle.cr_top.proofs.Named.{answers-named, does-named}
use Rattle.cr_top.proofs.Serving.{serves-from}
use Rattle.cr_top.proofs.run.do_job.Goals as goal

pub returns-in-Ok-clause-does : goal.returns-in-Ok-clause-does
returns-in-Ok-clause-does g c =
    let outside = outside_of g.I.Source.faults g.O.Sink.taken g.O.Sink.faults g.C.Clock.coming g.C.Clock.faults in
    let o = outside c.args.input.now c.args.out.now c.args.clock.now in
    let o' = outside c.pipe-ending.new.input c.pipe-ending.new.out c.pipe-ending.new.clock in
    let none : c.in-Pipe-None.store ≡ None = rw c.in-Pipe-None.is at c.in-Pipe-None.store-is in
    let seen : job_seen c.args.job ≡ pipe_job None =
    ap job_seen c.in-Pipe-None.is ∙ ap (λ t. pipe_job (option_map (λ x. x.now) t)) none in
    does-named _ _ _ _ _ _ (pipe_job None) _ _ _ seen (
      subst (λ (opening : History). ServesPipe g.I.Source.left g.I.Source.read_gives opening c.exit_of.result o o')
          c.in-Ok.ensures
          (serves-from _ _ g.I.Source.left g.I.Source.read_gives c.in-Ok.book.log c.exit_of.result _ _ _ o o'
          c.exit_of.ensures c.pipe-ending.ensures.pipes),
      refl,
      refl,
    )

-- a count that stays 0 doesn't rise
stays : Rises 0 0 → ⊥
stays rises = let up : 0 < 0 = rises (omega arith) in omega (arith, up)

-- what is answered from a history that is the empty one
from-nothing : {I : Type 0} (opening : History) (exit exit' : Exit) (b : List ℕ) (o o' : Outside I) → opening ≡ []
    → exit ≡ exit'
    → (exit' ≡ exits.OutOfMemory) ⊎ AnswersAll opening exit' b o o' → (exit ≡ exits.OutOfMemory)
    ⊎ AnswersAll [] exit b o o'
from-nothing {I} opening exit exit' b o o' none is answers =
    subst (λ (x : Exit). (x ≡ exits.OutOfMemory) ⊎ AnswersAll [] x b o o') (sym is)
    (subst (λ (H : History). (exit' ≡ exits.OutOfMemory) ⊎ AnswersAll H exit' b o o') none answers)

pub returns-in-Ok-clause-answers : goal.returns-in-Ok-clause-answers
returns-in-Ok-clause-answers g c =
    let outside = outside_of g.I.Source.faults g.O.Sink.taken g.O.Sink.faults g.C.Clock.coming g.C.Clock.faults in
    let o = outside c.args.input.now c.args.out.now c.args.clock.now in
    let o' = outside c.pipe-ending.new.input c.pipe-ending.new.out c.pipe-ending.new.clock in
    let none : c.in-Pipe-None.store ≡ None = rw c.in-Pipe-None.is at c.in-Pipe-None.store-is in
    let seen : job_seen c.args.job ≡ pipe_job None =
    ap job_seen c.in-Pipe-None.is ∙ ap (λ t. pipe_job (option_map (λ x. x.now) t)) none in
    answers-named _ _ (pipe_job None) _ _ _ seen
    (λ b left faultless. from-nothing _ _ _ b o o' c.in-Ok.ensures c.exit_of.ensures
    (c.pipe-ending.ensures.answers b left faultless stays))

pub returns-in-Pipe-Some-clause-answers : goal.returns-in-Pipe-Some-clause-answers
returns-in-Pipe-Some-clause-answers g c =
    let some : c.in-Pipe-Some.store ≡ Some c.in-Pipe-Some.path = rw c.in-Pipe-Some.is at c.in-Pipe-Some.store-is in
    let seen : job_seen c.args.job ≡ pipe_job (Some c.in-Pipe-Some.path.now) =
    ap job_seen c.in-Pipe-Some.is ∙ ap (λ t. pipe_job (option_map (λ x. x.now) t)) some in
    answers-named _ _ (pipe_job (Some c.in-Pipe-Some.path.now)) _ _ _ seen
    (λ b left faultless H has. c.pipe_store.ensures.answers b left faultless has.faultless H has.legal has.told)

pub returns-in-Serve-clause-answers : goal.returns-in-Serve-clause-answers
returns-in-Serve-clause-answers g c =
    let job = serve_job c.in-Serve.listen.now c.in-Serve.workers c.in-Serve.connections c.in-Serve.store.now in
    let seen : job_seen c.args.job ≡ job = ap job_seen c.in-Serve.is in
    answers-named _ _ job _ _ _ seen
    (λ quiet given H has. c.serve_store.ensures.answers quiet given has.faultless H has.legal has.told)

pub returns-in-View-clause-answers : goal.returns-in-View-clause-answers
returns-in-View-clause-answers g c =
    let seen : job_seen c.args.job ≡ view_job c.in-View.store.now c.in-View.user.now = ap job_seen c.in-View.is in
    answers-named _ _ (view_job c.in-View.store.now c.in-View.user.now) _ _ _ seen
    (λ quiet H has. c.view_store.ensures.answers quiet has.faultless H has.legal has.told)

pub returns-in-Drill-clause-answers : goal.returns-in-Drill-clause-answers
returns-in-Drill-clause-answers g c =
    let seen : job_seen c.args.job ≡ drill_job c.in-Drill.seed c.in-Drill.steps = ap job_seen c.in-Drill.is in
    answers-named _ _ (drill_job c.in-Drill.seed c.in-Drill.steps) _ _ _ seen c.drill.ensures.answers
