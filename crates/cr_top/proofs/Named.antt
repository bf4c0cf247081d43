-- SPDX-License-Identifier: Apache-2.0 OR MIT
-- What was done for a job, of the one that the words name.
use Rattle.std.proofs.Common.{◌≡◌, ℕ, List, Bool, Option, inr, sym, subst}
use Rattle.cr_words.specs.Job.{NamedJob}
use Rattle.cr_workers.specs.Connections.{Streams}
use Rattle.cr_top.specs.declared.exit.Exit.{Exit}
use Rattle.cr_top.specs.Jobs.{Surroundings, AnswersJob, Does, DoesJob}
use Rattle.cr_top.specs.Stores.{Keeping}

pub does-named : {I K A B D : Type 0} (tells_stops : List ℕ → Bool) (keeps : List ℕ → Keeping)
    (left : I → Option (List ℕ))
    (gives : I → I → List ℕ → Type 0)
    (streams : Streams K A B D) (named job : NamedJob) (exit : Exit) (a a' : Surroundings I A B D)
    → named ≡ job → DoesJob tells_stops keeps left gives streams job exit a a'
    → Does tells_stops keeps left gives streams named exit a a'
does-named {I} {K} {A} {B} {D} tells_stops keeps left gives streams named job exit a a' is done =
    subst (λ (j : NamedJob). Does tells_stops keeps left gives streams j exit a a') (sym is) (inr done)

pub answers-named : {I A B D : Type 0} (left : I → Option (List ℕ)) (named job : NamedJob) (exit : Exit)
    (a a' : Surroundings I A B D)
    → named ≡ job → AnswersJob left job exit a a' → AnswersJob left named exit a a'
answers-named left named job exit a a' is answers =
    subst (λ (j : NamedJob). AnswersJob left j exit a a') (sym is) answers
