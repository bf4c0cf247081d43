-- SPDX-License-Identifier: Apache-2.0 OR MIT
-- A wish that repeats an act, or what the opening history keeps, adds nothing, and is told what the group of that tells.
-- So without the repeats all ends the same.
use Rattle.std.proofs.Common.{ℕ, Bool, true, false, cond, ◌≡◌, List, [], ◌∷◌, ◌++◌, length, eqb, refl, sym, ap, subst}
use Rattle.std.proofs.Common.{◌∙◌, append-nil, Option, Some, None}
use Rattle.std.specs.Prelude.{IfSome, find, is_none, not}
use Rattle.std.specs.List.{All}
use Rattle.std.specs.Option.{option_map}
use Rattle.std.specs.Str.{bytes_eq}
use Rattle.std.proofs.lemmas.Bool.{true≢false, and_parts, eqb-true}
use Rattle.std.proofs.lemmas.List.Elements.{All-nil, All-cons, All-head, All-tail, All-append, All-weaker}
use Rattle.std.proofs.lemmas.Slice.Eq.{bytes_eq-Decides}
use Rattle.cr_base.specs.declared.bulk.Broken.{Broken}
use Rattle.cr_base.specs.declared.bulk.Broken.TheVariants as broken
use Rattle.cr_base.specs.declared.reply.Receipt.{Receipt}
use Rattle.cr_base.specs.declared.reply.Reply.TheVariants as replies
use Rattle.cr_base.specs.declared.reply.Rule.{Rule}
use Rattle.cr_base.specs.declared.reply.Rule.TheVariants as rules
use Rattle.cr_base.specs.declared.retry.RetryKey.{RetryKey}
use Rattle.cr_base.specs.Calls.{call_of, bulk_by}
use Rattle.cr_base.specs.Drawn.{Drawn, receipt_of}
use Rattle.cr_base.specs.History.{History}
use Rattle.cr_base.specs.HistoryFacts.{accounts_of}
use Rattle.cr_base.specs.Keys.{kept_under}
use Rattle.cr_base.specs.Lists.{given, is_nothing}
use Rattle.cr_base.specs.Retries.{KeptCall, kept_call, repeated_receipt, Outcome, Repeats, drawn_by}
use Rattle.cr_base.specs.Sources.{name_told_by}
use Rattle.cr_base.specs.Rows.{key_mark}
use Rattle.cr_policy.specs.Judge.{judge, decide, judge_bulk, decide_bulk}
use Rattle.cr_policy.specs.Legal.{Legal}
use Rattle.cr_policy.specs.View.{View, view}
use Rattle.cr_policy.specs.ViewRetries.{kept_in_view}
use Rattle.cr_policy.proofs.ReceiptLaws.{names-told}
use Rattle.cr_policy.proofs.RetryLaws.{kept_from_view}
use Rattle.cr_print.specs.declared.sending.Sending.{Sending}
use Rattle.cr_print.specs.Answers.{reply_text}
use Rattle.cr_wire.specs.declared.what.What.{What}
use Rattle.cr_wire.specs.declared.what.What.TheVariants as whats
use Rattle.cr_wire.specs.declared.what.Wish.{Wish}
use Rattle.cr_wire.specs.Caller.{caller}
use Rattle.cr_session.specs.Retries.{Act, act_drawn, acts_of, key_of, is_bulk, is_same_key, is_repeat_of, of_mark}
use Rattle.cr_session.specs.Retries.{added_under, Earlier, Opened, Acted, earlier_of, repeated_by, without_repeats}
use Rattle.cr_session.specs.Retries.{ends_in, IsToldAgain, AreToldAgain, AreBounded, RetriesActOnce}
use Rattle.cr_session.specs.Told.{sending_of, told, told_sent, as_bulk, reply_of, drawn, and_drawn, after_wish}
use Rattle.cr_session.specs.Turning.{IsBoundedWish}
use Rattle.cr_session.specs.TwoRuns.{WishInTurn, is_same}
use Rattle.cr_session.proofs.Accepting.{Accepts, wish-draws, accepted-sent, settled-repeats}
use Rattle.cr_session.proofs.Repeating.{WishAdds, wish-adds, IsTold, IsUnder, IsKept, IsKeptIf, KeepsOn, keeps-on}
use Rattle.cr_session.proofs.Repeating.{kept-stays, kept-new}
use Rattle.cr_session.proofs.TurnLaws.{MayWish, sent-by, drawn-by}
use Rattle.cr_session.proofs.TwoRunsLaws.{same_user}

-- ---- what is kept of an act

-- what the group of an act tells: the act's mark, and its receipt, to what it is itself
record TellsAgain (H : History) (key : RetryKey) (bulk : Bool) (group : History) (receipt : Receipt) : Type 0 where
  call : KeptCall
  call_is : kept_call (accounts_of H) group ≡ Some call
  mark : call.mark ≡ key.mark
  receipt_is : repeated_receipt bulk call ≡ receipt

tells-again : (H : History) (key : RetryKey) (bulk : Bool) (group : History) (receipt : Receipt) → IsUnder key group
    → IsTold bulk H group receipt
    → TellsAgain H key bulk group receipt
tells-again H key bulk [] receipt under told = absurd under
tells-again H key bulk (e ∷ es) receipt under told = record {
  call = call;
  call_is = refl;
  mark = ap key_mark under;
  receipt_is = by bulk told;
}
  where
    call : KeptCall
    call = record {
      mark = key_mark e.stamp.key;
      receipt = receipt_of (name_told_by (accounts_of H) e.entry) e.entry;
      entries = length (e ∷ es);
    }

    by : (b : Bool) → IsTold b H (e ∷ es) receipt → repeated_receipt b call ≡ receipt
    by true told = sym told
    by false told = ap (λ (name : List ℕ). receipt_of name e.entry) (names-told H e.entry told.name told.named)
        ∙ sym told.told

-- ---- a wish that repeats an act

-- it adds nothing, and is told this receipt
record Repeated (H : History) (w : Wish) (receipt : Receipt) : Type 0 where
  nothing : drawn H w ≡ None
  sent : (sending : Sending) → told_sent H w sending ≡ reply_text (replies.Accepted receipt) sending

-- where what is kept under its number has its mark
module _ (H : History) (w : Wish) (user : ℕ) (key : RetryKey) (call : KeptCall) (calls : caller H w ≡ Some user)
    (looked_up : kept_in_view (view (Some user) H) key.number ≡ Some call) (mark : call.mark ≡ key.mark) where
  abbrev V : View
  V = view (Some user) H

  wishes : (what : What) → w.what ≡ what → MayWish H w (Some user) what
  wishes what is = record { is = is; by = sym calls; may = refl }

  repeat-told : (what : What) → w.what ≡ what → key_of what ≡ Some key
      → Repeated H w (repeated_receipt (is_bulk what) call)
  repeat-told (whats.Command k command) is has =
      let outcome : decide V (call_of (Some user) w.at k command) ≡ Repeats (repeated_receipt false call) =
      ap (λ (o : Option RetryKey). decide V (call_of (Some user) w.at o command)) has
      ∙ settled-repeats rules.NumberUsed false key (kept_in_view V)
      (judge V (call_of (Some user) w.at (Some key) command)) call looked_up mark in
      let may = wishes (whats.Command k command) is in
      record {
        nothing =
            drawn-by H w (Some user) (whats.Command k command) may ∙ ap (λ (o : Outcome Rule). drawn_by o) outcome;
        sent = λ sending. sent-by H w (Some user) (whats.Command k command) sending may
            ∙ ap (λ (o : Outcome Rule). reply_text (reply_of (as_bulk o)) sending) outcome;
      }
  repeat-told (whats.Bulk k rows) is has =
      let outcome : decide_bulk V (bulk_by user w.at k rows) ≡ Repeats (repeated_receipt true call) =
      ap (λ (o : Option RetryKey). decide_bulk V (bulk_by user w.at o rows)) has
      ∙ settled-repeats (broken.Rule rules.NumberUsed) true key (kept_in_view V)
      (judge_bulk V (bulk_by user w.at (Some key) rows)) call looked_up mark in
      let may = wishes (whats.Bulk k rows) is in
      record {
        nothing = drawn-by H w (Some user) (whats.Bulk k rows) may ∙ ap (λ (o : Outcome Broken). drawn_by o) outcome;
        sent = λ sending. sent-by H w (Some user) (whats.Bulk k rows) sending may
            ∙ ap (λ (o : Outcome Broken). reply_text (reply_of o) sending) outcome;
      }
  repeat-told whats.NoRoute is has = absurd (cc (has))
  repeat-told (whats.WrongMethod resource) is has = absurd (cc (has))
  repeat-told (whats.BadNumber ask) is has = absurd (cc (has))
  repeat-told (whats.BadBody ask) is has = absurd (cc (has))
  repeat-told (whats.BadQuery ask offset) is has = absurd (cc (has))
  repeat-told (whats.Query query) is has = absurd (cc (has))

-- two keys of one number and one mark
record SameKey (one other : Option RetryKey) : Type 0 where
  key : RetryKey
  key' : RetryKey
  one_is : one ≡ Some key
  other_is : other ≡ Some key'
  number : key.number ≡ key'.number
  mark : key.mark ≡ key'.mark

same-key : (one other : Option RetryKey) → is_same_key one other ≡ true → SameKey one other
same-key None other is = absurd (true≢false (sym is))
same-key (Some key) None is = absurd (true≢false (sym is))
same-key (Some key) (Some key') is =
    let parts = and_parts (eqb key.number key'.number) (bytes_eq key.mark key'.mark) is in
    record {
      key = key;
      key' = key';
      one_is = refl;
      other_is = refl;
      number = eqb-true key.number key'.number parts.0;
      mark = (bytes_eq-Decides key.mark key'.mark).0 parts.1;
    }

-- a wish that repeats this
record AgainIn (H : History) (w : WishInTurn) (earlier : Earlier) : Type 0 where
  stays : after_wish H w.wish ≡ H
  told : IsToldAgain earlier H w

-- an act that is kept
again : (H : History) (w : WishInTurn) (act : Act) → IsKeptIf H act → is_repeat_of H w.wish act ≡ true
    → AgainIn H w (Acted act)
unfolding told
again H w act kept_if is = record {
  stays = ap (and_drawn H) done.nothing;
  told = (
    record {
      receipt = repeated_receipt (is_bulk w.wish.what) tells.call;
      receipt_is = ap (option_map (repeated_receipt (is_bulk w.wish.what))) tells.call_is;
      told_is = done.sent sending;
    },
    λ same. done.sent sending
        ∙ ap (λ (receipt : Receipt). reply_text (replies.Accepted receipt) sending)
        (ap (λ (b : Bool). repeated_receipt b tells.call) same ∙ tells.receipt_is)
        ∙ sym (accepted-sent act.before act.wish (caller act.before act.wish) act.drawn sending kept.accepts),
  );
}
  where
    sending : Sending
    sending = sending_of w.wish w.closes

    parts : (is_same (caller act.before act.wish) (caller H w.wish) ≡ true)
        × (is_same_key (key_of act.wish.what) (key_of w.wish.what) ≡ true)
    parts = and_parts (is_same (caller act.before act.wish) (caller H w.wish))
        (is_same_key (key_of act.wish.what) (key_of w.wish.what)) is

    keys : SameKey (key_of act.wish.what) (key_of w.wish.what)
    keys = same-key (key_of act.wish.what) (key_of w.wish.what) parts.1

    kept : IsKept H act keys.key
    kept = kept_if keys.key keys.one_is

    tells : TellsAgain H keys.key (is_bulk act.wish.what) act.drawn.group act.drawn.receipt
    tells = tells-again H keys.key (is_bulk act.wish.what) act.drawn.group act.drawn.receipt kept.first kept.told

    looked_up : kept_in_view (view (Some kept.user) H) keys.key'.number ≡ Some tells.call
    looked_up =
        kept_from_view (Some kept.user) H keys.key'.number
        ∙ ap (kept_call (accounts_of H)) (ap (λ (n : ℕ). kept_under kept.user n H) (sym keys.number) ∙ kept.under)
        ∙ tells.call_is

    done : Repeated H w.wish (repeated_receipt (is_bulk w.wish.what) tells.call)
    done =
        repeat-told H w.wish kept.user keys.key' tells.call
        (same_user (caller act.before act.wish) (caller H w.wish) parts.0 ∙ kept.caller_is)
        looked_up (tells.mark ∙ keys.mark) w.wish.what refl keys.other_is

-- what the opening history keeps under its caller's number
module _ (opening H : History) (keeps : KeepsOn opening H) (w : WishInTurn) where
  opened : (user : ℕ) (key : RetryKey) (group kept : History) → caller H w.wish ≡ Some user
      → key_of w.wish.what ≡ Some key → kept_under user key.number opening ≡ kept → of_mark key.mark kept ≡ Some group
      → AgainIn H w (Opened group)
  unfolding told
  opened user key group [] calls has is marked = absurd (cc (marked))
  opened user key group (e ∷ es) calls has is marked = by (bytes_eq (key_mark e.stamp.key) key.mark) refl marked
    where
      call : KeptCall
      call = record {
        mark = key_mark e.stamp.key;
        receipt = receipt_of (name_told_by (accounts_of H) e.entry) e.entry;
        entries = length (e ∷ es);
      }

      looked_up : kept_in_view (view (Some user) H) key.number ≡ Some call
      looked_up =
          kept_from_view (Some user) H key.number ∙ ap (kept_call (accounts_of H)) (keeps user key.number e es is)

      by : (b : Bool) → bytes_eq (key_mark e.stamp.key) key.mark ≡ b → cond b (Some (e ∷ es)) None ≡ Some group
          → AgainIn H w (Opened group)
      by false same of = absurd (cc (of))
      by true same of =
          let done : Repeated H w.wish (repeated_receipt (is_bulk w.wish.what) call) =
          repeat-told H w.wish user key call calls looked_up ((bytes_eq-Decides (key_mark e.stamp.key) key.mark).0 same)
          w.wish.what refl has in
          let group_is : e ∷ es ≡ group = cc (of) in
          subst (λ (g : History). AgainIn H w (Opened g)) group_is
          (record {
            stays = ap (and_drawn H) done.nothing;
            told = record {
              receipt = repeated_receipt (is_bulk w.wish.what) call;
              receipt_is = refl;
              told_is = done.sent (sending_of w.wish w.closes);
            };
          })

  again-opened : (u : Option ℕ) (k : Option RetryKey) (group : History) → caller H w.wish ≡ u
      → key_of w.wish.what ≡ k → added_under u k opening ≡ Some group → AgainIn H w (Opened group)
  again-opened None k group calls has is = absurd (cc (is))
  again-opened (Some user) None group calls has is = absurd (cc (is))
  again-opened (Some user) (Some key) group calls has is =
      opened user key group (kept_under user key.number opening) calls has refl is

-- ---- one wish after another

-- what a search finds is there, and passes
found-there : {A : Type 0} (P : A → Type 0) (test : A → Bool) (xs : List A) (x : A) → All P xs → find test xs ≡ Some x
    → P x × (test x ≡ true)
found-there P test [] x all is = absurd (cc (is))
found-there P test (y ∷ ys) x all is = by (test y) refl is (found-there P test ys x (All-tail P y ys all))
  where
    by : (b : Bool) → test y ≡ b → cond b (Some y) (find test ys) ≡ Some x
        → (find test ys ≡ Some x → P x × (test x ≡ true)) → P x × (test x ≡ true)
    by true passes is rest = let e : y ≡ x = cc (is) in (subst P e (All-head P y ys all), ap test (sym e) ∙ passes)
    by false passes is rest = rest is

-- behind a wish the history is legal, and what was kept is, with what the wish did
record Goes (opening : History) (acts : List Act) (H : History) (w : Wish) (o : Option Drawn) : Type 0 where
  legal : Legal (and_drawn H o)
  keeps : KeepsOn opening (and_drawn H o)
  kept : All (IsKeptIf (and_drawn H o)) (acts ++ act_drawn H w o)

module _ (opening : History) where
  goes-on : (acts : List Act) (H : History) (w : Wish) → Legal H → KeepsOn opening H → All (IsKeptIf H) acts
      → IsBoundedWish w → (o : Option Drawn) → drawn H w ≡ o → Goes opening acts H w o
  goes-on acts H w legal keeps kept bounded None is = record {
    legal = legal;
    keeps = keeps;
    kept = subst (λ (xs : List Act). All (IsKeptIf H) xs) (sym (append-nil acts)) kept;
  }
  goes-on acts H w legal keeps kept bounded (Some d) is = record {
    legal = adds.legal;
    keeps = keeps-on H w d adds opening keeps;
    kept = All-append (IsKeptIf (H ++ d.group)) acts (act_drawn H w (Some d))
        (All-weaker (IsKeptIf H) (IsKeptIf (H ++ d.group)) (kept-stays H w d adds) acts kept)
        (by (is_nothing d.group) refl);
  }
    where
      accepts : Accepts H w (caller H w) d
      accepts = wish-draws H w d is

      adds : WishAdds H w (caller H w) d
      adds = wish-adds H legal d w bounded (caller H w) accepts

      act : Act
      act = record { before = H; wish = w; drawn = d }

      by : (b : Bool) → is_nothing d.group ≡ b
          → All (IsKeptIf (H ++ d.group)) (given (not b) (record { before = H; wish = w; drawn = d }))
      by true none = All-nil (IsKeptIf (H ++ d.group))
      by false some =
          All-cons (IsKeptIf (H ++ d.group)) act [] (kept-new H w d adds accepts some)
          (All-nil (IsKeptIf (H ++ d.group)))

  -- what a wish repeats
  again-of : (acts : List Act) (H : History) (w : WishInTurn) → KeepsOn opening H → All (IsKeptIf H) acts
      → (group : Option History) → added_under (caller H w.wish) (key_of w.wish.what) opening ≡ group
      → (act : Option Act) → find (is_repeat_of H w.wish) acts ≡ act
      → (earlier : Earlier) → earlier_of group act ≡ Some earlier → AgainIn H w earlier
  again-of acts H w keeps kept (Some group) added act found earlier is =
      let same : Opened group ≡ earlier = cc (is) in
      subst (λ (x : Earlier). AgainIn H w x) same
      (again-opened opening H keeps w (caller H w.wish) (key_of w.wish.what) group refl refl added)
  again-of acts H w keeps kept None added None found earlier is = absurd (cc (is))
  again-of acts H w keeps kept None added (Some act) found earlier is =
      let same : Acted act ≡ earlier = cc (is) in
      let there = found-there (IsKeptIf H) (is_repeat_of H w.wish) acts act kept found in
      subst (λ (x : Earlier). AgainIn H w x) same (again H w act there.0 there.1)

  record Once (acts : List Act) (H : History) (ws : List WishInTurn) : Type 0 where
    ends : ends_in H (without_repeats opening acts H ws) ≡ ends_in H ws
    told : AreToldAgain opening acts H ws

  -- the same of a wish before others, which repeats this or nothing
  record OnceFor (acts : List Act) (H : History) (w : WishInTurn) (ws : List WishInTurn) (o : Option Earlier)
      : Type 0 where
    ends : ends_in H
        (given (is_none o) w ++ without_repeats opening (acts ++ acts_of H w.wish) (after_wish H w.wish) ws)
        ≡ ends_in (after_wish H w.wish) ws
    told : IfSome o (λ (earlier : Earlier). IsToldAgain earlier H w)
    told_behind : AreToldAgain opening (acts ++ acts_of H w.wish) (after_wish H w.wish) ws

  acts-once_for : (acts : List Act) (H : History) (w : WishInTurn) (ws : List WishInTurn) → KeepsOn opening H
      → All (IsKeptIf H) acts → Once (acts ++ acts_of H w.wish) (after_wish H w.wish) ws
      → (o : Option Earlier) → repeated_by opening acts H w.wish ≡ o → OnceFor acts H w ws o
  acts-once_for acts H w ws keeps kept rest None is =
      record { ends = rest.ends; told = tt; told_behind = rest.told }
  acts-once_for acts H w ws keeps kept rest (Some earlier) is =
      let told_so : AgainIn H w earlier =
      again-of acts H w keeps kept (added_under (caller H w.wish) (key_of w.wish.what) opening) refl
      (find (is_repeat_of H w.wish) acts) refl earlier is in
      record {
        ends = ap
            (λ (G : History).
            ends_in G (without_repeats opening (acts ++ acts_of H w.wish) (after_wish H w.wish) ws))
            (sym told_so.stays) ∙ rest.ends;
        told = told_so.told;
        told_behind = rest.told;
      }

  acts-once : (acts : List Act) (H : History) (ws : List WishInTurn) → Legal H → KeepsOn opening H
      → All (IsKeptIf H) acts → AreBounded ws → Once acts H ws
  acts-once acts H [] legal keeps kept bounded = record { ends = refl; told = tt }
  acts-once acts H (w ∷ ws) legal keeps kept bounded =
      let behind = goes-on acts H w.wish legal keeps kept bounded.0 (drawn H w.wish) refl in
      let rest = acts-once (acts ++ acts_of H w.wish) (after_wish H w.wish) ws behind.legal behind.keeps behind.kept
      bounded.1 in
      let here = acts-once_for acts H w ws keeps kept rest (repeated_by opening acts H w.wish) refl in
      record { ends = here.ends; told = (here.told, here.told_behind) }

pub retries_act_once : RetriesActOnce
retries_act_once opening wishes legal bounded =
    let all = acts-once opening [] opening wishes legal (λ user number e es is. is) (All-nil (IsKeptIf opening)) bounded
    in
    record { ends = all.ends; told = all.told }
