-- SPDX-License-Identifier: Apache-2.0 OR MIT
-- What single fields tell of a paper, by reads of the tables.
use Rattle.std.proofs.Common.{ℕ, Bool, true, false, cond, ◌≡◌, ◌<◌, ◌+◌, ◌-◌, ◌||◌, ◌&&◌, List, [], ◌∷◌, ◌++◌, refl}
use Rattle.std.proofs.Common.{sym, ap, subst, ◌∙◌, arith, Option, Some, None, Result, Ok, Err, zero, suc, Bor}
use Rattle.std.specs.Prelude.{map, filter, not, is_ok, is_some, unwrap_or}
use Rattle.std.specs.List.{flat_map}
use Rattle.std.specs.Option.{option_copied, option_map}
use Rattle.std.proofs.lemmas.Bool.{true≢false}
use Rattle.std.proofs.Math.Bool.{or-true}
use Rattle.cr_base.specs.declared.reply.Reply.{Reply}
use Rattle.cr_base.specs.declared.reply.Reply.TheVariants as replies
use Rattle.cr_base.specs.declared.reply.Rule.{Rule}
use Rattle.cr_base.specs.declared.review.ReviewLine.{ReviewLine}
use Rattle.cr_base.specs.declared.review.WrittenForm.{WrittenForm}
use Rattle.cr_base.specs.declared.standing.Standing.{Standing}
use Rattle.cr_base.specs.Accounts.{lines_of}
use Rattle.cr_base.specs.Answering.{reply_or_rule, review_told, reviews_answered, tells_response, uploads_told}
use Rattle.cr_base.specs.Labels.{by_labels, most_labels}
use Rattle.cr_base.specs.Checks.{Check, judged, reads_all_forms}
use Rattle.cr_base.specs.History.{FormTold, Upload}
use Rattle.cr_base.specs.HistoryFacts.{assigned_under}
use Rattle.cr_base.specs.Lists.{is_nothing, last, last_from, listed}
use Rattle.cr_base.specs.Page.{shows_reviewer}
use Rattle.cr_base.specs.Phases.{committee_reads_from, is_from, authors_read_reviews}
use Rattle.cr_base.specs.Reviews.{early_form_in, forms_discussed_in, forms_in, is_written_in, last_form_in}
use Rattle.cr_base.specs.Reviews.{written_told}
use Rattle.cr_base.specs.Seats.{ordinal_in, seats_in}
use Rattle.cr_base.specs.Tables.{Tables}
use Rattle.cr_base.proofs.Small.{is_some-option_map}
use Rattle.cr_view.specs.Fields.{some_label}
use Rattle.cr_view.specs.Reviews.{reviews_at}
use Rattle.cr_view.proofs.JudgeLaws.{made_of, judged-made, passed, refused}

-- ---- rules

-- how she stands, where the rules that are asked of that and of whether the paper is there aren't broken
pub ruled : (checks : Standing → Bool → List Check) (by stands : Standing) (there here : Bool)
    (r : Result (Unit {0}) Rule)
    → by ≡ stands → there ≡ here → r ≡ judged (checks by there) tt
    → made_of (λ (u : Unit {0}). by) r ≡ judged (checks stands here) stands
ruled checks by stands there here r is same h =
    judged-made (checks by there) (λ (u : Unit {0}). by) tt r h
    ∙ ap (λ (s : Standing). judged (checks s there) s) is
    ∙ ap (λ (b : Bool). judged (checks stands b) stands) same

-- the lines where no rule is broken, and none where one is
pub reviews-answered-all : (checks : List Check) (lines : List ReviewLine)
    → ◌≡◌ {A = Result (Unit {0}) Rule} (Ok tt) (judged checks tt)
    → reviews_answered (reply_or_rule (judged checks (replies.Reviews lines))) ≡ lines
reviews-answered-all checks lines h =
    sym (ap (λ (r : Result Reply Rule). reviews_answered (reply_or_rule r))
    (passed checks (λ (u : Unit {0}). replies.Reviews lines) tt tt h))

pub reviews-answered-none : (checks : List Check) (lines : List ReviewLine) (rule : Rule)
    → ◌≡◌ {A = Result (Unit {0}) Rule} (Err rule) (judged checks tt)
    → reviews_answered (reply_or_rule (judged checks (replies.Reviews lines))) ≡ []
reviews-answered-none checks lines rule h =
    sym (ap (λ (r : Result Reply Rule). reviews_answered (reply_or_rule r))
    (refused checks tt (replies.Reviews lines) rule h))

-- a response is told where no rule is broken
pub response-told : (checks : List Check) (text : List ℕ)
    → is_ok {T = Unit {0}} {E = Rule} (judged checks tt)
    ≡ tells_response (reply_or_rule (judged checks (replies.Response text)))
response-told [] text = refl
response-told (check ∷ checks) text = by check.broken (response-told checks text)
  where
    asked : Result (Unit {0}) Rule
    asked = judged checks tt

    told : Result Reply Rule
    told = judged checks (replies.Response text)

    by : (b : Bool) → is_ok asked ≡ tells_response (reply_or_rule told)
        → is_ok {T = Unit {0}} {E = Rule} (cond b (Err check.rule) asked)
        ≡ tells_response (reply_or_rule (cond b (Err check.rule) told))
    by true rest = refl
    by false rest = rest

-- ---- lists with something in them

pub some-map : {A B : Type 0} (f : A → B) (xs : List A) → not (is_nothing (map f xs)) ≡ not (is_nothing xs)
some-map f [] = refl
some-map f (x ∷ xs) = refl

some-append : {A : Type 0} (xs ys : List A) → not (is_nothing (xs ++ ys)) ≡ (not (is_nothing xs) || not (is_nothing ys))
some-append [] ys = refl
some-append (x ∷ xs) ys = refl

last-from : {A : Type 0} (x : A) (xs : List A) → is_some (last_from (Some x) xs) ≡ true
last-from x [] = refl
last-from x (y ∷ xs) = last-from y xs

-- a list has a last value where it has one
some-last : {A : Type 0} (xs : List A) → is_some (last xs) ≡ not (is_nothing xs)
some-last [] = refl
some-last (x ∷ xs) = last-from x xs

some-listed : {A : Type 0} (o : Option A) → not (is_nothing (listed o)) ≡ is_some o
some-listed None = refl
some-listed (Some x) = refl

pub some-copied : {T : Type 0} (o : Option (Bor T)) → is_some o ≡ is_some (option_copied o)
some-copied None = refl
some-copied (Some x) = refl

-- ---- versions

-- a version is told where there is one
pub some-version : (author : Bool) (uploads : List Upload)
    → is_some (option_map (λ (u : Upload). u.version) (last uploads))
    ≡ not (is_nothing (map (λ (u : Upload). u.version) (uploads_told author uploads)))
some-version author uploads =
    is_some-option_map (λ (u : Upload). u.version) (last uploads)
    ∙ told author
    ∙ sym (some-map (λ (u : Upload). u.version) (uploads_told author uploads))
  where
    told : (b : Bool) → is_some (last uploads) ≡ not (is_nothing (uploads_told b uploads))
    told true = some-last uploads
    told false = sym (some-listed (last uploads))

-- ---- labels

-- one of them
some-far : (written : ℕ → Bool) (n k m : ℕ) → m ≡ n + 1 + k → written (n + 1) ≡ true → some_label written m ≡ true
some-far written n k zero is h = absurd (omega (arith, is))
some-far written n zero (suc m) is h =
    let same : n + 1 ≡ suc m = omega (arith, is) in
    ap (λ (b : Bool). some_label written m || b) (subst (λ (o : ℕ). written o ≡ true) same h)
    ∙ or-true (some_label written m)
some-far written n (suc k) (suc m) is h =
    ap (λ (b : Bool). b || written (suc m)) (some-far written n k m (omega (arith, is)) h)

pub some-within : (written : ℕ → Bool) (n m : ℕ) → n < m → written (n + 1) ≡ true → some_label written m ≡ true
some-within written n m within h = some-far written n (m - (n + 1)) m (omega (arith, within)) h

-- none of those up to the next
pub none-more : (written : ℕ → Bool) (n : ℕ) → some_label written n ≡ false → written (n + 1) ≡ false
    → some_label written (n + 1) ≡ false
none-more written n before here =
    let next : n + 1 ≡ suc n = omega arith in
    subst (λ (k : ℕ). some_label written k ≡ false) (sym next)
    (ap (λ (b : Bool). b || written (suc n)) before ∙ subst (λ (k : ℕ). written k ≡ false) next here)

some-labels : {A : Type 0} (told : ℕ → List A) (written : ℕ → Bool) → ((o : ℕ) → not (is_nothing (told o)) ≡ written o)
    → (n : ℕ)
    → not (is_nothing (by_labels told n)) ≡ some_label written n
some-labels told written same zero = refl
some-labels told written same (suc n) =
    some-append (by_labels told n) (told (suc n))
    ∙ ap (λ (b : Bool). b || not (is_nothing (told (suc n)))) (some-labels told written same n)
    ∙ ap (λ (b : Bool). some_label written n || b) (same (suc n))

-- where the same is written under each, it is under some
pub some-same : (written other : ℕ → Bool) → ((o : ℕ) → written o ≡ other o) → (n : ℕ)
    → some_label written n ≡ some_label other n
some-same written other same n = ap (λ (w : ℕ → Bool). some_label w n) (λ i o. same o i)

-- ---- forms

-- the last of the forms under a label, and those that are discussed, are there where there is one
some-last-form : (forms : List WrittenForm)
    → not (is_nothing (listed (option_map written_told (last forms)))) ≡ not (is_nothing forms)
some-last-form forms =
    some-listed (option_map written_told (last forms)) ∙ is_some-option_map written_told (last forms) ∙ some-last forms

abbrev discussed : List WrittenForm → List WrittenForm
discussed forms =
    listed (last (filter (λ (w : WrittenForm). not (is_from committee_reads_from w.phase)) forms))
    ++ filter (λ (w : WrittenForm). is_from committee_reads_from w.phase) forms

some-discussed : (forms : List WrittenForm) → not (is_nothing (discussed forms)) ≡ not (is_nothing forms)
some-discussed [] = refl
some-discussed (w ∷ forms) = by (is_from committee_reads_from w.phase)
  where
    early : List WrittenForm
    early = filter (λ (v : WrittenForm). not (is_from committee_reads_from v.phase)) forms

    late : List WrittenForm
    late = filter (λ (v : WrittenForm). is_from committee_reads_from v.phase) forms

    by : (b : Bool) → not (is_nothing (listed (last (cond (not b) (w ∷ early) early)) ++ cond b (w ∷ late) late)) ≡ true
    by true = some-append (listed (last early)) (w ∷ late) ∙ or-true (not (is_nothing (listed (last early))))
    by false =
        some-append (listed (last (w ∷ early))) late
        ∙ ap (λ (b : Bool). b || not (is_nothing late)) (some-listed (last (w ∷ early)) ∙ some-last (w ∷ early))

module _ (t : Tables) (user : Option ℕ) (by : Standing) (p : ℕ) where
  abbrev written : ℕ → Bool
  written o = is_written_in t.reviews p o

  -- a form under a label as it is told
  abbrev line : Bool → ℕ → FormTold → ReviewLine
  line named o form = review_told by (lines_of t.accounts) named (assigned_under o (seats_in t.seats p)) o form

  abbrev under : (ℕ → List FormTold) → ℕ → List ReviewLine
  under forms o = map (line (shows_reviewer by) o) (forms o)

  abbrev own : Option ℕ → List ReviewLine
  own seat =
      map (line false (unwrap_or seat 0)) (flat_map (λ (o : ℕ). map written_told (forms_in t.reviews p o))
      (listed seat))

  -- the last before the response, where that was opened
  abbrev early : ℕ → Option FormTold
  early = early_form_in t.stage.had_response t.reviews p

  -- what is told to authors, from the notification on and before it; to members from the discussion on; and before that
  abbrev told : Bool → Bool → Bool → List ReviewLine
  told author final late =
      cond author
      (by_labels
      (under (λ (o : ℕ). listed (cond final (option_map written_told (last_form_in t.reviews p o)) (early o))))
      most_labels)
      (cond late (by_labels (under (forms_discussed_in t.reviews p)) most_labels) (own (ordinal_in t.seats user p)))

  some-under : (forms : ℕ → List FormTold) (there : ℕ → Bool) → ((o : ℕ) → not (is_nothing (forms o)) ≡ there o)
      → some_label there 26 ≡ not (is_nothing (by_labels (under forms) most_labels))
  unfolding most_labels
  some-under forms there same =
      sym (some-labels (under forms) there (λ o. some-map (line (shows_reviewer by) o) (forms o) ∙ same o) 26)

  some-all : (author final late : Bool) → (author && not final) ≡ false → (author || late) ≡ true
      → some_label written 26 ≡ not (is_nothing (told author final late))
  some-all true true late end h =
      some-under (λ (o : ℕ). listed (option_map written_told (last_form_in t.reviews p o))) written
      (λ o. some-last-form (forms_in t.reviews p o))
  some-all true false late end h = absurd (true≢false end)
  some-all false final true end h =
      some-under (forms_discussed_in t.reviews p) written
      (λ o. some-map written_told (discussed (forms_in t.reviews p o)) ∙ some-discussed (forms_in t.reviews p o))
  some-all false final false end h = absurd (true≢false (sym h))

  -- to authors in the end, and to members from the discussion on, something is told where there is a form
  pub some-reviews : (by.author && not (authors_read_reviews by.phase)) ≡ false
      → (by.author || reads_all_forms by) ≡ true
      → some_label written 26 ≡ not (is_nothing (reviews_at t user by p))
  some-reviews end h = some-all by.author (authors_read_reviews by.phase) (reads_all_forms by) end h

  some-early-all : (author final late : Bool) → (author && not final) ≡ true
      → some_label (λ (o : ℕ). is_some (early o)) 26 ≡ not (is_nothing (told author final late))
  some-early-all true false late h =
      some-under (λ (o : ℕ). listed (early o)) (λ (o : ℕ). is_some (early o)) (λ o. some-listed (early o))
  some-early-all true true late h = absurd (true≢false (sym h))
  some-early-all false final late h = absurd (true≢false (sym h))

  -- to authors before the notification, where there is one that was written before the response
  pub some-early : (by.author && not (authors_read_reviews by.phase)) ≡ true
      → some_label (λ (o : ℕ). is_some (early o)) 26 ≡ not (is_nothing (reviews_at t user by p))
  some-early h = some-early-all by.author (authors_read_reviews by.phase) (reads_all_forms by) h
