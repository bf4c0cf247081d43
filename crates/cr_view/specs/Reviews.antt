-- SPDX-License-Identifier: Apache-2.0 OR MIT
-- What a caller is told of a paper's reviews, by the tables.
use Rattle.std.specs.Prelude.{ℕ, Bool, not, ◌&&◌, ◌==◌, List, map, Option}
use Rattle.std.specs.Prelude.{Some, None, unwrap_or, Result, if◌then◌else◌}
use Rattle.std.specs.List.{flat_map}
use Rattle.std.specs.Option.{option_and_then}
use Rattle.cr_base.specs.declared.command.Query.TheVariants as queries
use Rattle.cr_base.specs.declared.reply.Rule.{Rule}
use Rattle.cr_base.specs.declared.review.ReviewLine.{ReviewLine}
use Rattle.cr_base.specs.declared.review.WrittenForm.{WrittenForm}
use Rattle.cr_base.specs.declared.standing.Standing.{Standing}
use Rattle.cr_base.specs.declared.words.Phase.{Phase}
use Rattle.cr_base.specs.Accounts.{lines_of}
use Rattle.cr_base.specs.Answering.{authors_form, reviews_by}
use Rattle.cr_base.specs.History.{FormTold}
use Rattle.cr_base.specs.HistoryFacts.{assigned_under}
use Rattle.cr_base.specs.Lists.{listed}
use Rattle.cr_base.specs.Page.{shows_reviewer, where_told}
use Rattle.cr_base.specs.Phases.{is_from}
use Rattle.cr_base.specs.Reviews.{forms_discussed_in}
use Rattle.cr_base.specs.Seats.{ordinal_in, seats_in}
use Rattle.cr_base.specs.Sources.{own_forms_in, shown_in_tables, name_in}
use Rattle.cr_base.specs.Tables.{Tables}
use Rattle.cr_view.specs.declared.reviews.Heading.{Heading}
use Rattle.cr_view.specs.Replies.{facts_at, due_at}

-- ---- under one label

-- a form, as it is told under this heading
abbrev pub review_line : Heading → FormTold → ReviewLine
review_line heading form = record {
  confidence = form.confidence;
  label = heading.label;
  score = form.score;
  to_authors = form.to_authors;
  to_pc = where_told (not heading.to_author) form.to_pc;
  user = heading.user;
  version = where_told (not heading.to_author) form.version;
}

-- the form, if it is under the label and was written in the phase or later
abbrev pub form_under : ℕ → Phase → WrittenForm → Option WrittenForm
form_under label phase written = if written.ordinal == label && is_from phase written.phase then Some written else None

-- those of these forms that are under the label and were written in the phase or later
abbrev pub forms_under : ℕ → Phase → List WrittenForm → List WrittenForm
forms_under label phase forms = flat_map (λ (written : WrittenForm). listed (form_under label phase written)) forms

-- the name of the user who was assigned to the paper under the label, if it is told
abbrev pub label_name : Tables → Bool → ℕ → ℕ → Option (List ℕ)
label_name t named p o =
    where_told named (option_and_then (name_in (lines_of t.accounts)) (assigned_under o (seats_in t.seats p)))

-- how forms under the label are told to a caller with this standing at the paper
abbrev pub heading_at : Tables → Standing → ℕ → ℕ → Heading
heading_at t by p o = record { to_author = by.author; label = o; user = label_name t (shows_reviewer by) p o }

-- the forms under the label that a caller with this standing at the paper is told
abbrev pub forms_shown : Tables → Standing → ℕ → ℕ → List FormTold
forms_shown t by p o =
    if by.author then listed (authors_form (shown_in_tables t) by p o)
    else forms_discussed_in t.reviews p o

-- the reviews under the label that a caller with this standing at the paper is told
abbrev pub label_reviews : Tables → Standing → ℕ → ℕ → List ReviewLine
label_reviews t by p o = map (review_line (heading_at t by p o)) (forms_shown t by p o)

-- ---- all of them

-- a reviewer's own forms, without the reviewer's name
abbrev pub own_reviews : Tables → Option ℕ → Standing → ℕ → List ReviewLine
own_reviews t user by p =
    map (review_line (record { to_author = by.author; label = unwrap_or (ordinal_in t.seats user p) 0; user = None }))
    (own_forms_in t user p)

-- the reviews that a user with this standing at the paper is told
abbrev pub reviews_at : Tables → Option ℕ → Standing → ℕ → List ReviewLine
reviews_at t user by p = reviews_by (facts_at t user by) (shown_in_tables t) p

-- the reviews that are due to a user, or the first broken rule
abbrev pub reviews_due : Tables → Option ℕ → Option ℕ → Result (List ReviewLine) Rule
reviews_due t user paper = due_at queries.Reviews reviews_by t user paper
