-- SPDX-License-Identifier: Apache-2.0 OR MIT
use Rattle.std.proofs.Common.{◌∙◌, ◌+◌, ◌≤◌, List, ℕ, arith, drop, length, refl, subst}
use Rattle.cr_ports.specs.Count.{Rises}
use Rattle.cr_ports.specs.declared.source.ReadStep.TheVariants as reads
use Rattle.cr_journal.specs.Keeping.{ReadsOn}
use Rattle.cr_journal.proofs.ReadLaws.{filled-more}
use Rattle.cr_journal.proofs.opening.fill.Goals as goal

pub overflow_add-filled : goal.overflow_add-filled
overflow_add-filled g c = omega (arith, c.in-Got.ensures.size.1, c.reading-test.true)

pub reading-smaller : goal.reading-smaller
reading-smaller g c = omega (arith, c.in-Got.ensures.size, c.read_behind.ensures.len, c.reading-test.true)

pub reading-preserved : goal.reading-preserved
reading-preserved g c =
    let so_far = c.reading.invariant in
    let filled = c.reading.filled in
    let n = c.in-Got.n in
    let old = c.reading.bytes in
    let new = c.read_behind.new.bytes in
    record {
      len = c.read_behind.ensures.len ∙ so_far.len;
      few = omega (arith, c.in-Got.ensures.size.1, c.read_behind.ensures.len, c.reading-test.true);
      told = λ tells.
          let bytes = drop c.args.at (g.D.Disk.seen c.args.disk.now) in
          let r = subst (λ (l : List ℕ). ReadsOn (reads.Got n) filled old new (drop c.args.at l)) (so_far.seen tells)
          (c.in-Got.ensures.told tells) in
          let long : filled + n ≤ length new = omega (arith, r.1, c.read_behind.ensures.len) in
          filled-more filled n old new bytes long r.4 (so_far.told tells) r.2 r.3;
      near = λ tells.
          let r = subst (λ (l : List ℕ). ReadsOn (reads.Got n) filled old new (drop c.args.at l)) (so_far.seen tells)
          (c.in-Got.ensures.told tells) in
          r.4;
      seen = λ tells. c.read_behind.ensures.seen tells ∙ so_far.seen tells;
      crash = λ tells image left. so_far.crash tells image (c.read_behind.ensures.crash tells image left);
      steady = c.in-Got.ensures.cause.steady (λ e. absurd (cc e)) ∙ so_far.steady;
    }

pub returns-in-End-clause-cause : goal.returns-in-End-clause-cause
returns-in-End-clause-cause g c = record {
  later = subst (λ (n : ℕ). n ≤ g.D.Disk.faults c.read_behind.new.disk) c.reading.invariant.steady
      c.in-End.ensures.cause.later;
  failed = tt;
  steady = c.in-End.ensures.cause.steady (λ e. absurd (cc e)) ∙ c.reading.invariant.steady;
}

pub returns-in-Failed-clause-cause : goal.returns-in-Failed-clause-cause
returns-in-Failed-clause-cause g c = record {
  later = subst (λ (n : ℕ). n ≤ g.D.Disk.faults c.read_behind.new.disk) c.reading.invariant.steady
      c.in-Failed.ensures.cause.later;
  failed = subst (λ (n : ℕ). Rises n (g.D.Disk.faults c.read_behind.new.disk)) c.reading.invariant.steady
      (c.in-Failed.ensures.cause.failed refl);
  steady = tt;
}
