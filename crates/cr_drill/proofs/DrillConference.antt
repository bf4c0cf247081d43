-- SPDX-License-Identifier: Apache-2.0 OR MIT
-- What everyone is told of the conference is what its history tells.
use Rattle.std.proofs.Common.{◌≡◌, ◌∙◌, ◌≤◌, None, length, sym, ap, arith}
use Rattle.cr_base.specs.declared.command.Query.TheVariants as queries
use Rattle.cr_base.specs.declared.reply.Conference.{Conference}
use Rattle.cr_base.specs.declared.reply.Reply.{Reply}
use Rattle.cr_base.specs.declared.reply.Reply.TheVariants as replies
use Rattle.cr_base.specs.declared.standing.Standing.{Standing}
use Rattle.cr_base.specs.Answering.{answer_by_role}
use Rattle.cr_base.specs.History.{History}
use Rattle.cr_base.specs.HistoryFacts.{papers_of, phase_of}
use Rattle.cr_base.specs.Tables.{Tables, tables_of}
use Rattle.cr_base.proofs.ListLaws.{length-numbers_from}
use Rattle.cr_history.proofs.SizeAgreement.{sized-tables}
use Rattle.cr_policy.specs.Judge.{answer}
use Rattle.cr_policy.specs.Legal.{Legal}
use Rattle.cr_policy.specs.View.{view}
use Rattle.cr_policy.proofs.LegalLaws.{Legal-answer, Legal-fits, Legal-told}

pub record IsConference (H : History) (told : Conference) : Type 0 where
  pub phase : told.phase ≡ phase_of H
  pub papers : told.papers ≡ length (papers_of H)
  pub few : told.papers ≤ 9999

-- the conference that a reply tells
abbrev conference_in : Conference → Reply → Conference
conference_in other (replies.Conference told) = told
conference_in other _ = other

pub conference-told : (H : History) (told : Conference) → Legal H
    → replies.Conference told ≡ answer None (view None H) queries.Phase → IsConference H told
conference-told H told legal is =
    let t : Tables = tables_of H in
    let same : told ≡ conference_in told (answer_by_role t None queries.Phase) =
    ap (conference_in told) (is ∙ Legal-answer None H queries.Phase legal) in
    let tells = Legal-told H legal in
    let count : length (papers_of H) ≡ length t.papers.papers =
    ap length tells.papers ∙ length-numbers_from 1 t.papers.papers in
    let papers : told.papers ≡ length (papers_of H) =
    ap (λ (c : Conference). c.papers) same ∙ sym (ap length tells.papers) in
    let few = (sized-tables H (Legal-fits H legal)).papers in
    record {
      phase = ap (λ (c : Conference). c.phase) same ∙ sym (ap (λ (s : Standing). s.phase) (tells.standing None None));
      papers = papers;
      few = omega (arith, papers, count, few);
    }
