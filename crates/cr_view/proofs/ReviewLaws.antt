-- SPDX-License-Identifier: Apache-2.0 OR MIT
-- What a caller is told of a paper's reviews, by reads of the tables.
use Rattle.std.proofs.Common.{ℕ, Bool, true, false, cond, ◌≡◌, ◌≤◌, ◌+◌, ◌==◌, List, [], ◌∷◌, ◌++◌}
use Rattle.std.proofs.Common.{append_assoc, add-one, refl, sym, ap, ◌∙◌, arith, Option, Some, None, ◌&&◌, suc}
use Rattle.std.specs.Prelude.{map, filter, find, not, unwrap_or}
use Rattle.std.specs.List.{flat_map}
use Rattle.std.specs.Option.{option_map, option_and_then}
use Rattle.std.proofs.lemmas.Bool.{true≢false}
use Rattle.std.proofs.lemmas.List.{append-nil, map-append}
use Rattle.cr_base.specs.declared.entry.Account.{Account}
use Rattle.cr_base.specs.declared.pairs.Order.TheVariants.{ByPaper}
use Rattle.cr_base.specs.declared.pairs.Tie.{Tie}
use Rattle.cr_base.specs.declared.review.ReviewLine.{ReviewLine}
use Rattle.cr_base.specs.declared.review.WrittenForm.{WrittenForm}
use Rattle.cr_base.specs.declared.seat.Seat.{Seat}
use Rattle.cr_base.specs.declared.standing.Standing.{Standing}
use Rattle.cr_base.specs.declared.words.Phase.{Phase}
use Rattle.cr_base.specs.declared.words.Phase.TheVariants.{Setup, Submission, Bidding, Reviewing, Response, Discussion}
use Rattle.cr_base.specs.declared.words.Phase.TheVariants.{Notification, Closed}
use Rattle.cr_base.specs.Accounts.{account_at, lines_of}
use Rattle.cr_base.specs.Answering.{authors_form}
use Rattle.cr_base.specs.Labels.{by_labels, most_labels}
use Rattle.cr_base.specs.History.{SeatTold, FormTold}
use Rattle.cr_base.specs.HistoryFacts.{assigned_under}
use Rattle.cr_base.specs.Lists.{is_nothing, last, listed}
use Rattle.cr_base.specs.Phases.{committee_reads_from, is_from, authors_read_reviews}
use Rattle.cr_base.specs.Reviews.{forms_in, last_form_before, forms_discussed_in, is_written_in, written_told}
use Rattle.cr_base.specs.Filed.{filed_of}
use Rattle.cr_base.specs.Page.{where_told}
use Rattle.cr_base.specs.Pairs.{ties_of}
use Rattle.cr_base.specs.Seats.{told_seat, ordinal_in, seats_in}
use Rattle.cr_base.specs.Sources.{name_in, shown_in_tables}
use Rattle.cr_base.specs.Tables.{Tables}
use Rattle.cr_base.proofs.ListLaws.{name_in-lines_of}
use Rattle.cr_view.specs.declared.reviews.Heading.{Heading}
use Rattle.cr_view.specs.Reviews.{review_line, forms_under, heading_at, forms_shown, label_name, label_reviews}
use Rattle.cr_view.specs.Reviews.{own_reviews}

-- ---- who has a label

found-told : (o : ℕ) (seats : List (Tie Seat))
    → find (λ (s : SeatTold). s.ordinal == o) (map told_seat seats)
    ≡ option_map told_seat (find (λ (t : Tie Seat). t.value.ordinal == o) seats)
found-told o [] = refl
found-told o (t ∷ seats) = by (t.value.ordinal == o) (found-told o seats)
  where
    by : (b : Bool) → find (λ (s : SeatTold). s.ordinal == o) (map told_seat seats)
        ≡ option_map told_seat (find (λ (s : Tie Seat). s.value.ordinal == o) seats)
        → cond b (Some (told_seat t)) (find (λ (s : SeatTold). s.ordinal == o) (map told_seat seats))
        ≡ option_map told_seat (cond b (Some t) (find (λ (s : Tie Seat). s.value.ordinal == o) seats))
    by true h = refl
    by false h = h

-- the name of whoever is found under it, where that is told
pub label-name-is : (t : Tables) (named : Bool) (p o : ℕ) (seats : List (Tie Seat)) (user : Option ℕ)
    (name : Option (List ℕ))
    → seats ≡ ties_of ByPaper p t.seats → named ≡ true
    → user ≡ option_map (λ (s : Tie Seat). s.pair.user) (find (λ (s : Tie Seat). s.value.ordinal == o) seats)
    → name ≡ option_and_then (λ (u : ℕ). option_map (λ (a : Account). a.name) (account_at t.accounts u)) user
    → name ≡ label_name t named p o
label-name-is t named p o seats user name are shows is told =
    let under : List (Tie Seat) → Option (Tie Seat) = λ ss. find (λ (s : Tie Seat). s.value.ordinal == o) ss in
    told
    ∙ ap (λ (f : ℕ → Option (List ℕ)). option_and_then f user) (λ i u. sym (name_in-lines_of t.accounts u) i)
    ∙ ap (option_and_then (name_in (lines_of t.accounts)))
    (is ∙ user-of (under seats) ∙ sym (ap (option_and_then (λ (s : SeatTold). s.user)) (found-told o seats))
    ∙ ap (λ (ss : List (Tie Seat)). assigned_under o (map told_seat ss)) are)
    ∙ sym
    (ap
    (λ (b : Bool). where_told b (option_and_then (name_in (lines_of t.accounts))
    (assigned_under o (seats_in t.seats p)))) shows)
  where
    user-of : (found : Option (Tie Seat))
        → option_map (λ (s : Tie Seat). s.pair.user) found ≡ option_and_then (λ (s : SeatTold). s.user)
        (option_map told_seat found)
    user-of None = refl
    user-of (Some s) = refl

-- ---- forms under a label

-- what is told of forms
abbrev lines : Heading → List WrittenForm → List ReviewLine
lines heading forms = map (review_line heading) (map written_told forms)

lines-append : (heading : Heading) (xs ys : List WrittenForm)
    → lines heading (xs ++ ys) ≡ lines heading xs ++ lines heading ys
lines-append heading xs ys =
    ap (map (review_line heading)) (map-append written_told xs ys)
    ∙ map-append (review_line heading) (map written_told xs) (map written_told ys)

-- those of the label that were written in the phase or later
forms-under : (o : ℕ) (phase : Phase) (forms : List WrittenForm) → forms_under o phase forms
    ≡ filter (λ (w : WrittenForm). is_from phase w.phase) (filter (λ (w : WrittenForm). w.ordinal == o) forms)
forms-under o phase [] = refl
forms-under o phase (x ∷ forms) = split (x.ordinal == o) (forms-under o phase forms)
  where
    kept : List WrittenForm
    kept = filter (λ (w : WrittenForm). w.ordinal == o) forms

    later : List WrittenForm
    later = filter (λ (w : WrittenForm). is_from phase w.phase) kept

    first : (b : Bool) → forms_under o phase forms ≡ later
        → listed (cond b (Some x) None) ++ forms_under o phase forms ≡ cond b (x ∷ later) later
    first true h = ap (λ (rest : List WrittenForm). x ∷ rest) h
    first false h = h

    split : (b : Bool) → forms_under o phase forms ≡ later
        → listed (cond (b && is_from phase x.phase) (Some x) None) ++ forms_under o phase forms
        ≡ filter (λ (w : WrittenForm). is_from phase w.phase) (cond b (x ∷ kept) kept)
    split true h = first (is_from phase x.phase) h
    split false h = h

-- of which all were in setup or later
from-setup : (phase : Phase) → is_from Setup phase ≡ true
from-setup Setup = refl
from-setup Submission = refl
from-setup Bidding = refl
from-setup Reviewing = refl
from-setup Response = refl
from-setup Discussion = refl
from-setup Notification = refl
from-setup Closed = refl

all-from : (forms : List WrittenForm) → filter (λ (w : WrittenForm). is_from Setup w.phase) forms ≡ forms
all-from [] = refl
all-from (w ∷ forms) =
    let rest : List WrittenForm = filter (λ (v : WrittenForm). is_from Setup v.phase) forms in
    ap (λ (b : Bool). cond b (w ∷ rest) rest) (from-setup w.phase)
    ∙ ap (λ (ws : List WrittenForm). w ∷ ws) (all-from forms)

-- ---- the forms of one label

told-listed : (form : Option WrittenForm) → map written_told (listed form) ≡ listed (option_map written_told form)
told-listed None = refl
told-listed (Some w) = refl

-- an author is told one
pub label-authors : (t : Tables) (by : Standing) (p o : ℕ) (heading : Heading) (form : Option WrittenForm)
    (before : List ReviewLine)
    → by.author ≡ true → option_map written_told form ≡ authors_form (shown_in_tables t) by p o
    → before ++ lines heading (listed form) ≡ before ++ map (review_line heading) (forms_shown t by p o)
label-authors t by p o heading form before author is =
    let shown : Bool → List FormTold =
    λ b. cond b (listed (authors_form (shown_in_tables t) by p o)) (forms_discussed_in t.reviews p o) in
    ap (λ (fs : List FormTold). before ++ map (review_line heading) fs)
    (told-listed form ∙ ap (λ (f : Option FormTold). listed f) is ∙ sym (ap shown author))

-- who is no author is told the last before the discussion, and all later ones
pub label-discussed : (t : Tables) (by : Standing) (p o : ℕ) (heading : Heading) (form : Option WrittenForm)
    (forms : List WrittenForm)
    (before middle : List ReviewLine) → by.author ≡ false → form ≡ last_form_before t.reviews p o committee_reads_from
    → forms ≡ filed_of p t.reviews.forms → middle ≡ before ++ lines heading (listed form)
    → middle ++ lines heading (forms_under o committee_reads_from forms) ≡ before ++ map (review_line heading)
    (forms_shown t by p o)
label-discussed t by p o heading form forms before middle other is are pushed =
    let first : List ReviewLine = lines heading (listed form) in
    let later : List WrittenForm = forms_under o committee_reads_from forms in
    let shown : Bool → List FormTold =
    λ author. cond author (listed (authors_form (shown_in_tables t) by p o)) (forms_discussed_in t.reviews p o) in
    ap (λ (l : List ReviewLine). l ++ lines heading later) pushed
    ∙ append_assoc before first (lines heading later)
    ∙ ap (λ (l : List ReviewLine). before ++ l)
    (sym (lines-append heading (listed form) later)
    ∙ ap (λ (w : Option WrittenForm). lines heading (listed w ++ later)) is
    ∙ ap (λ (ws : List WrittenForm). lines heading (listed (last_form_before t.reviews p o committee_reads_from) ++ ws))
    (forms-under o committee_reads_from forms
    ∙ ap (λ (ws : List WrittenForm). filter (λ (w : WrittenForm). is_from committee_reads_from w.phase)
    (filter (λ (w : WrittenForm). w.ordinal == o) ws)) are)
    ∙ sym (ap (λ (b : Bool). map (review_line heading) (shown b)) other))

module _ (t : Tables) (user : Option ℕ) (by : Standing) (p : ℕ) where
  -- who reviews the paper is told her own
  abbrev own_under : Option ℕ → List ReviewLine
  own_under seat =
      map (review_line (record { to_author = by.author; label = unwrap_or seat 0; user = None }))
      (flat_map (λ (o : ℕ). map written_told (forms_in t.reviews p o)) (listed seat))

  pub own-told : (label : ℕ) (forms : List WrittenForm) → Some label ≡ ordinal_in t.seats user p
      → forms ≡ filed_of p t.reviews.forms
      → lines (record { to_author = by.author; label = label; user = None }) (forms_under label Setup forms)
      ≡ own_reviews t user by p
  own-told label forms is filed =
      let heading : Heading = record { to_author = by.author; label = label; user = None } in
      ap (lines heading)
      (forms-under label Setup forms ∙ all-from (filter (λ (w : WrittenForm). w.ordinal == label) forms)
      ∙ ap (filter (λ (w : WrittenForm). w.ordinal == label)) filed)
      ∙ sym (ap (map (review_line heading)) (append-nil (map written_told (forms_in t.reviews p label))))
      ∙ ap own_under is

-- ---- all of them

-- a label under which there is no form adds nothing
pub label-unwritten : (t : Tables) (by : Standing) (p o : ℕ) → is_written_in t.reviews p o ≡ false
    → [] ≡ label_reviews t by p o
label-unwritten t by p o none =
    split (forms_in t.reviews p o) by.author (authors_read_reviews by.phase) t.stage.had_response none
  where
    split : (forms : List WrittenForm) (author final opened : Bool) → not (is_nothing forms) ≡ false
        → [] ≡ map (review_line (heading_at t by p o))
        (cond author
        (listed
        (cond final (option_map written_told (last forms))
        (cond opened
        (option_map written_told (last (filter (λ (w : WrittenForm). not (is_from Response w.phase)) forms))) None)))
        (map written_told
        (listed (last (filter (λ (w : WrittenForm). not (is_from committee_reads_from w.phase)) forms))
        ++ filter (λ (w : WrittenForm). is_from committee_reads_from w.phase) forms)))
    split [] true true opened h = refl
    split [] true false true h = refl
    split [] true false false h = refl
    split [] false final opened h = refl
    split (w ∷ forms) author final opened h = absurd (true≢false h)

-- one more label
pub labels-step : {A : Type 0} (told : ℕ → List A) (n : ℕ) (before after : List A) → before ≡ by_labels told n
    → after ≡ before ++ told (n + 1)
    → after ≡ by_labels told (n + 1)
labels-step {A} told n before after h pushed =
    let next : n + 1 ≡ suc n = add-one n in
    pushed ∙ ap (λ (l : List A). l ++ told (n + 1)) h
    ∙ ap (λ (m : ℕ). by_labels told n ++ told m) next
    ∙ sym (ap (by_labels told) next)

-- and all of them
pub labels-all : {A : Type 0} (told : ℕ → List A) (n : ℕ) (given : List A) → given ≡ by_labels told n → 26 ≤ n → n ≤ 26
    → given ≡ by_labels told most_labels
unfolding most_labels
labels-all told n given h low high = let same : n ≡ 26 = omega arith in h ∙ ap (by_labels told) same
