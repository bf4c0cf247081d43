-- SPDX-License-Identifier: Apache-2.0 OR MIT
-- What every legal history keeps, kept as it grows; and what the tables tell of it.
use Rattle.std.proofs.Common.{◌++◌, refl}
use Rattle.std.specs.List.{All}
use Rattle.std.proofs.lemmas.List.Elements.{All-nil, All-append}
use Rattle.cr_base.specs.Rows.{IsBoundedEntry}
use Rattle.cr_base.specs.Tables.{no_tables}
use Rattle.cr_base.proofs.RowLaws.{restored-row_of}
use Rattle.cr_history.specs.Laws.{TablesTell, GrowthKeeps}
use Rattle.cr_history.proofs.BidAgreement.{bid_of-tables}
use Rattle.cr_history.proofs.ConflictAgreement.{is_conflict_on-tables, declared_by_authors-tables}
use Rattle.cr_history.proofs.DecisionAgreement.{decision_of-tables, is_accepted-tables}
use Rattle.cr_history.proofs.GroupLaws.{grown-bounded}
use Rattle.cr_history.proofs.InOrder.{in_order-append, whole-added}
use Rattle.cr_history.proofs.InTime.{in_time-nil, in_time-append, discussed-append, responded-nil, responded-append}
use Rattle.cr_history.proofs.InviteAgreement.{is_invited-tables}
use Rattle.cr_history.proofs.LineAgreement.{accounts_of-tables}
use Rattle.cr_history.proofs.NumberAgreement.{number_of-tables, caller_of-tables}
use Rattle.cr_history.proofs.PaperAgreement.{papers_of-tables, own_papers_of-tables, own_bytes_of-tables}
use Rattle.cr_history.proofs.PaperAgreement.{title_of-tables, abstract_of-tables, uploads_of-tables}
use Rattle.cr_history.proofs.PaperAgreement.{is_withdrawn-tables, authors_of-tables}
use Rattle.cr_history.proofs.ReviewAgreement.{forms_of-tables}
use Rattle.cr_history.proofs.SeatAgreement.{ordinal_of-tables, seats_of-tables, labels-tables, reviewers_of-tables}
use Rattle.cr_history.proofs.StageAgreement.{deadline_of-tables, had_response-tables}
use Rattle.cr_history.proofs.Staying.{stay-append}
use Rattle.cr_history.proofs.TagAgreement.{tags_of-tables}
use Rattle.cr_history.proofs.TalkAgreement.{comments_of-tables, own_comments_of-tables, response_of-tables}
use Rattle.cr_history.proofs.TableAgreement.{FitInTurn-append, standing_of-tables}

pub tables_tell : TablesTell
tables_tell H fits first = record {
  standing = λ u paper. standing_of-tables u paper H fits;
  deadline = λ phase. deadline_of-tables phase H;
  had_response = had_response-tables H;
  accounts = accounts_of-tables H fits;
  number = λ name. number_of-tables name H fits;
  caller = λ name digest. caller_of-tables name digest H fits;
  papers = papers_of-tables H fits;
  own_papers = λ u. own_papers_of-tables u H;
  own_bytes = λ u. own_bytes_of-tables u H;
  title = λ p. title_of-tables p H fits;
  abstract_ = λ p. abstract_of-tables p H fits;
  uploads = λ p. uploads_of-tables p H;
  withdrawn = λ p. is_withdrawn-tables p H fits;
  authors = λ p. authors_of-tables p H;
  conflict = λ u p. is_conflict_on-tables u p H;
  declared = λ p v. declared_by_authors-tables p v H fits first;
  bid = λ u p. bid_of-tables u p H;
  ordinal = λ u p. ordinal_of-tables u p H fits;
  labels = λ p. labels-tables p H;
  seats = λ p. seats_of-tables p H;
  reviewers = λ p. reviewers_of-tables p H fits;
  invited = λ u p. is_invited-tables u p H;
  forms = λ p o. forms_of-tables p o H;
  comments = λ p. comments_of-tables p H;
  own_comments = λ u. own_comments_of-tables u H;
  response = λ p. response_of-tables p H;
  tags = λ p. tags_of-tables p H;
  decision = λ p. decision_of-tables p H;
  accepted = λ p. is_accepted-tables p H fits;
}

pub growth_keeps : GrowthKeeps
growth_keeps = record {
  first =
      record {
        bounded = All-nil IsBoundedEntry;
        spelled = λ k d within. restored-row_of _ (All-nil IsBoundedEntry k d within);
        fits = tt;
        in_order = tt;
        declared_in_time = in_time-nil;
        discussed = refl;
        responded = responded-nil;
        stay = All-nil _;
      };
  more = λ H g kept grows fits.
      let all : All IsBoundedEntry (H ++ g) =
      All-append IsBoundedEntry H g kept.bounded (grown-bounded H kept.fits g grows fits) in
      record {
        bounded = all;
        spelled = λ k d within. restored-row_of _ (all k d within);
        fits = FitInTurn-append no_tables H g kept.fits fits;
        in_order = in_order-append H g kept.fits grows fits kept.in_order;
        declared_in_time = in_time-append H g grows kept.declared_in_time;
        discussed = discussed-append H g grows kept.discussed;
        responded = responded-append H g grows kept.responded;
        stay = stay-append H g grows kept.stay;
      };
  whole = whole-added;
}
