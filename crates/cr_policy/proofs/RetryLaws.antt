-- SPDX-License-Identifier: Apache-2.0 OR MIT
-- What a view keeps of a number of its reader's is what the history keeps: she is shown the key of each entry of her
-- own, and all that the receipt of its command tells; of others' she is shown no key.
use Rattle.std.proofs.Common.{ℕ, Bool, true, false, cond, ◌≡◌, suc, List, [], ◌∷◌, ◌++◌, length, eqb, refl, sym, ap}
use Rattle.std.proofs.Common.{◌∙◌, ◌&&◌, Option, Some, None}
use Rattle.std.specs.Prelude.{map, filter, unwrap_or}
use Rattle.std.specs.List.{flat_map}
use Rattle.std.proofs.lemmas.Bool.{true≢false}
use Rattle.std.proofs.Math.Bool.{or-false}
use Rattle.std.proofs.lemmas.List.{length-map}
use Rattle.cr_base.specs.declared.entry.Entry.{Entry}
use Rattle.cr_base.specs.declared.entry.Entry.TheVariants.{Registered, Named, PhaseSet, ModeSet, Uploaded}
use Rattle.cr_base.specs.declared.entry.Entry.TheVariants.{Bid, Assigned, Reviewed, Commented, DeadlineSet, Dismissed}
use Rattle.cr_base.specs.declared.entry.Stamp.{Stamp}
use Rattle.cr_base.specs.declared.entry.Stamped.{Stamped}
use Rattle.cr_base.specs.declared.reply.AccountLine.{AccountLine}
use Rattle.cr_base.specs.declared.reply.Receipt.{Receipt}
use Rattle.cr_base.specs.declared.reply.Receipt.TheVariants as receipts
use Rattle.cr_base.specs.declared.retry.RetryKey.{RetryKey}
use Rattle.cr_base.specs.declared.words.Mode.TheVariants.{Overt}
use Rattle.cr_base.specs.declared.words.Phase.TheVariants.{Setup}
use Rattle.cr_base.specs.declared.words.Role.TheVariants.{Account}
use Rattle.cr_base.specs.Drawn.{stamped, receipt_of}
use Rattle.cr_base.specs.History.{History}
use Rattle.cr_base.specs.HistoryFacts.{accounts_of}
use Rattle.cr_base.specs.Keys.{has_number, kept_under}
use Rattle.cr_base.specs.Lists.{is_number}
use Rattle.cr_base.specs.Retries.{KeptCall, kept_call, kept_of}
use Rattle.cr_base.specs.Sources.{name_told_by}
use Rattle.cr_base.specs.Rows.{key_mark}
use Rattle.cr_base.proofs.Small.{eqb-swap}
use Rattle.cr_policy.specs.Laws.{KeptFromView}
use Rattle.cr_policy.specs.Part as part
use Rattle.cr_policy.specs.Part.{Part, own_parts}
use Rattle.cr_policy.specs.Sighting.{Sighting, where_shown}
use Rattle.cr_policy.specs.Triggers.{Reader, reader, Around, position_of, ◌see◌, rows, shows}
use Rattle.cr_policy.specs.View.{View, view, rows_at, is_seen, joined}
use Rattle.cr_policy.specs.ViewFacts.{only}
use Rattle.cr_policy.specs.ViewRetries.{shows_number, mark_shown, name_shown, receipt_shown, kept_shown, kept_in_view}
use Rattle.cr_policy.proofs.BulkViews.{last-shows}
use Rattle.cr_policy.proofs.StandingLaws.{accounts-seen}
use Rattle.cr_policy.proofs.Tells.{own_seen, told_if}
use Rattle.cr_policy.proofs.Walk.{TellsAll, sights-all}

-- ---- what is kept, as a list of what each entry tells

record Line : Type 0 where
  mark : List ℕ
  receipt : Receipt

abbrev line_shown : List AccountLine → Sighting → Line
line_shown accounts s =
    record { mark = mark_shown s.key; receipt = receipt_shown s.kind (name_shown accounts s.user) s }

abbrev line_of : List AccountLine → Stamped → Line
line_of accounts e =
    record { mark = key_mark e.stamp.key; receipt = receipt_of (name_told_by accounts e.entry) e.entry }

abbrev first_line : List Line → Option KeptCall
first_line [] = None
first_line (l ∷ ls) = Some (record { mark = l.mark; receipt = l.receipt; entries = length (l ∷ ls) })

shown-lines : (accounts : List AccountLine) (ss : View)
    → kept_shown accounts ss ≡ first_line (map (line_shown accounts) ss)
shown-lines accounts [] = refl
shown-lines accounts (s ∷ ss) =
    ap
    (λ (n : ℕ). Some (record {
      mark = mark_shown s.key;
      receipt = receipt_shown s.kind (name_shown accounts s.user) s;
      entries = suc n;
    }))
    (sym (length-map ss (line_shown accounts)))

called-lines : (accounts : List AccountLine) (es : History)
    → kept_call accounts es ≡ first_line (map (line_of accounts) es)
called-lines accounts [] = refl
called-lines accounts (e ∷ es) =
    ap
    (λ (n : ℕ).
    Some (record {
      mark = key_mark e.stamp.key;
      receipt = receipt_of (name_told_by accounts e.entry) e.entry;
      entries = suc n;
    }))
    (sym (length-map es (line_of accounts)))

-- what is made of each that passes
map-filter : {X A : Type 0} (test : X → Bool) (f : X → A) (xs : List X)
    → map f (filter test xs) ≡ flat_map (λ x. only (test x) (f x ∷ [])) xs
map-filter test f [] = refl
map-filter test f (x ∷ xs) = by (test x) (map-filter test f xs)
  where
    by : (b : Bool) → map f (filter test xs) ≡ flat_map (λ x. only (test x) (f x ∷ [])) xs
        → map f (cond b (x ∷ filter test xs) (filter test xs)) ≡ only b (f x ∷ [])
        ++ flat_map (λ x. only (test x) (f x ∷ [])) xs
    by true rest = ap (λ ys. f x ∷ ys) rest
    by false rest = rest

-- ---- one entry

module _ (u : Option ℕ) (H : History) (at : Around) (stamp : Stamp) (more : Bool) where
  abbrev r : Reader
  r = reader u H

  abbrev shown : Entry → Sighting
  shown e = joined r at (stamped stamp more e)

  -- no row of the table shows the key: its maker alone is shown it
  pub key-shown : (e : Entry) → (shown e).key ≡ where_shown (is_number u stamp.maker) (Some stamp.key)
  key-shown (Registered user name digest) =
      ap (λ (b : Bool). where_shown b (Some stamp.key)) (or-false (is_number u stamp.maker))
  key-shown e = ap (λ (b : Bool). where_shown b (Some stamp.key)) (or-false (is_number u stamp.maker))

  -- all that belongs to the whole of it is shown its maker
  own-part : (e : Entry) (p : Part) → own_parts p ≡ true → is_number u stamp.maker ≡ true
      → shows (rows_at r at (stamped stamp more e)) p ≡ true
  own-part e p is mine =
      ap (λ (b : Bool). shows (rows r (position_of at e) stamp.maker e ++ b see own_parts ∷ []) p) mine
      ∙ last-shows (rows r (position_of at e) stamp.maker e) p is

  -- so is what its command was answered
  receipt-own : (accounts : List AccountLine) (e : Entry) → is_number u stamp.maker ≡ true
      → receipt_shown (shown e).kind (name_shown accounts (shown e).user) (shown e)
      ≡ receipt_of (name_told_by accounts e) e
  receipt-own accounts (Registered user name digest) mine =
      ap (λ (b : Bool). receipts.User (unwrap_or (where_shown b (Some user)) 0))
      (own-part (Registered user name digest) part.user refl mine)
  receipt-own accounts (Named user role) mine =
      ap (λ (b : Bool). receipts.Named (name_shown accounts (where_shown b (Some user)))
      (unwrap_or (shown (Named user role)).role Account)) (own-part (Named user role) part.user refl mine)
      ∙ ap (λ (b : Bool). receipts.Named (name_shown accounts (Some user))
      (unwrap_or (where_shown b (Some role)) Account)) (own-part (Named user role) part.role refl mine)
  receipt-own accounts (PhaseSet phase) mine =
      ap (λ (b : Bool). receipts.Phase (unwrap_or (where_shown b (Some phase)) Setup))
      (own-part (PhaseSet phase) part.phase refl mine)
  receipt-own accounts (ModeSet mode) mine =
      ap (λ (b : Bool). receipts.Mode (unwrap_or (where_shown b (Some mode)) Overt))
      (own-part (ModeSet mode) part.mode refl mine)
  receipt-own accounts (Uploaded paper version content) mine =
      ap (λ (b : Bool). receipts.Version (unwrap_or (where_shown b (Some version)) 0))
      (own-part (Uploaded paper version content) part.version refl mine)
  receipt-own accounts (Bid paper value) mine =
      ap (λ (b : Bool). receipts.Bid (unwrap_or (where_shown b (Some value)) 0))
      (own-part (Bid paper value) part.value refl mine)
  receipt-own accounts (Assigned paper user review_kind ordinal) mine =
      ap (λ (b : Bool). receipts.Label (unwrap_or (where_shown b (Some ordinal)) 0))
      (own-part (Assigned paper user review_kind ordinal) part.ordinal refl mine)
  receipt-own accounts (Reviewed paper ordinal version form) mine =
      ap (λ (b : Bool). receipts.Version (unwrap_or (where_shown b (Some version)) 0))
      (own-part (Reviewed paper ordinal version form) part.version refl mine)
  receipt-own accounts (Commented paper n ordinal text) mine =
      ap (λ (b : Bool). receipts.Comment (unwrap_or (where_shown b (Some n)) 0))
      (own-part (Commented paper n ordinal text) part.n refl mine)
  receipt-own accounts (DeadlineSet phase until) mine =
      ap (λ (b : Bool). receipts.Deadline (unwrap_or (where_shown b (Some phase)) Setup)
      (unwrap_or (shown (DeadlineSet phase until)).until None))
      (own-part (DeadlineSet phase until) part.phase refl mine)
      ∙ ap (λ (b : Bool). receipts.Deadline phase (unwrap_or (where_shown b (Some until)) None))
      (own-part (DeadlineSet phase until) part.until refl mine)
  receipt-own accounts (Dismissed user) mine =
      ap (λ (b : Bool). receipts.Named (name_shown accounts (where_shown b (Some user))) Account)
      (own-part (Dismissed user) part.user refl mine)
  receipt-own accounts e mine = refl

  -- the line that its sighting tells, where it shows the number, is the entry's, where that is hers and has it
  line-same : (accounts : List AccountLine) (number : ℕ) (e : Entry)
      → only (shows_number number (shown e).key) (line_shown accounts (shown e) ∷ [])
      ≡ only (is_number u stamp.maker && has_number number stamp.key) (line_of accounts (stamped stamp more e) ∷ [])
  line-same accounts number e = by (is_number u stamp.maker) refl
    where
      known : Bool → Option (Option RetryKey)
      known b = where_shown b (Some stamp.key)

      by : (b : Bool) → is_number u stamp.maker ≡ b
          → only (shows_number number (shown e).key) (line_shown accounts (shown e) ∷ [])
          ≡ only (b && has_number number stamp.key) (line_of accounts (stamped stamp more e) ∷ [])
      by false is =
          ap (λ (key : Option (Option RetryKey)). only (shows_number number key) (line_shown accounts (shown e) ∷ []))
          (key-shown e ∙ ap known is)
      by true is =
          let key : (shown e).key ≡ Some stamp.key = key-shown e ∙ ap known is in
          (λ i. only (shows_number number (key i))
          ((record { mark = mark_shown (key i); receipt = receipt-own accounts e is i }) ∷ []))

-- ---- all of them

module _ (u : Option ℕ) (H : History) (accounts : List AccountLine) (number : ℕ) where
  abbrev seen : Sighting → List Line
  seen s = only (shows_number number s.key) (line_shown accounts s ∷ [])

  abbrev told : Stamped → List Line
  told e = only (is_number u e.stamp.maker && has_number number e.stamp.key) (line_of accounts e ∷ [])

  lines-told : TellsAll (reader u H) seen told
  lines-told at e =
      told_if (reader u H) at e.stamp e.more seen (is_number u e.stamp.maker && has_number number e.stamp.key) e.entry
      (line_of accounts e ∷ []) unseen
      (line-same u H at e.stamp e.more accounts number e.entry)
    where
      unseen : is_seen (reader u H) at (stamped e.stamp e.more e.entry) ≡ false
          → (is_number u e.stamp.maker && has_number number e.stamp.key) ≡ false
      unseen silent = by (is_number u e.stamp.maker) refl
        where
          by : (b : Bool) → is_number u e.stamp.maker ≡ b → (b && has_number number e.stamp.key) ≡ false
          by true is = absurd (true≢false (sym (own_seen (reader u H) at e.stamp e.more e.entry is) ∙ silent))
          by false is = refl

  lines-seen : map (line_shown accounts) (filter (λ (s : Sighting). shows_number number s.key) (view u H))
      ≡ flat_map told H
  lines-seen = map-filter (λ (s : Sighting). shows_number number s.key) (line_shown accounts) (view u H)
      ∙ sights-all (reader u H) seen told lines-told [] H

-- ---- the law

-- nobody has any
nothing-told : (H : History) (accounts : List AccountLine) (number : ℕ) → flat_map (told None H accounts number) H ≡ []
nothing-told H accounts number = by H
  where
    by : (G : History) → flat_map (told None H accounts number) G ≡ []
    by [] = refl
    by (e ∷ G) = by G

-- the lines of what is kept of a user's number
lines-kept : (user : ℕ) (H : History) (accounts : List AccountLine) (number : ℕ)
    → map (line_of accounts) (kept_under user number H) ≡ flat_map (told (Some user) H accounts number) H
lines-kept user H accounts number =
    map-filter (λ (e : Stamped). eqb e.stamp.maker user && has_number number e.stamp.key) (line_of accounts) H
    ∙ ap (λ (f : Stamped → List Line). flat_map f H)
    (λ i e. only (eqb-swap e.stamp.maker user i && has_number number e.stamp.key) (line_of accounts e ∷ []))

pub kept_from_view : KeptFromView
kept_from_view u H number =
    ap (λ (accounts : List AccountLine). kept_shown accounts
    (filter (λ (s : Sighting). shows_number number s.key) (view u H))) (accounts-seen u H)
    ∙ shown-lines (accounts_of H) (filter (λ (s : Sighting). shows_number number s.key) (view u H))
    ∙ ap first_line (lines-seen u H (accounts_of H) number)
    ∙ by u
  where
    by : (u : Option ℕ) → first_line (flat_map (told u H (accounts_of H) number) H) ≡ kept_of u H number
    by None = ap first_line (nothing-told H (accounts_of H) number)
    by (Some user) =
        ap first_line (sym (lines-kept user H (accounts_of H) number))
        ∙ sym (called-lines (accounts_of H) (kept_under user number H))

-- so of every number
pub kept-seen : (u : Option ℕ) (H : History) → kept_in_view (view u H) ≡ kept_of u H
kept-seen u H = λ i number. kept_from_view u H number i
