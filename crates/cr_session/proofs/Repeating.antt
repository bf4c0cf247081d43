-- SPDX-License-Identifier: Apache-2.0 OR MIT
-- A number that was accepted keeps its group, as one does with which the history opened: no later command of its
-- maker's is accepted with it. So what a repeat is told stays what the first was.
use Rattle.std.proofs.Common.{ℕ, Bool, true, false, ◌≡◌, ◌&&◌, List, [], ◌∷◌, ◌++◌, length, refl, sym, ap, subst, ◌∙◌}
use Rattle.std.proofs.Common.{Option, Some, None, Ok}
use Rattle.std.specs.Prelude.{map}
use Rattle.std.proofs.lemmas.Bool.{true≢false, eq-eqb}
use Rattle.cr_base.specs.declared.bulk.BulkRow.{BulkRow}
use Rattle.cr_base.specs.declared.command.Call.{Call}
use Rattle.cr_base.specs.declared.command.Command.{Command}
use Rattle.cr_base.specs.declared.command.Command.TheVariants.{Register}
use Rattle.cr_base.specs.declared.entry.Entry.{Entry}
use Rattle.cr_base.specs.declared.entry.Stamp.{Stamp}
use Rattle.cr_base.specs.declared.entry.Stamped.{Stamped}
use Rattle.cr_base.specs.declared.reply.Receipt.{Receipt}
use Rattle.cr_base.specs.declared.reply.Receipt.TheVariants as receipts
use Rattle.cr_base.specs.declared.retry.RetryKey.{RetryKey}
use Rattle.cr_base.specs.Calls.{BulkCall, call_of, bulk_by, maker_of}
use Rattle.cr_base.specs.Drawn.{Drawn, grouped}
use Rattle.cr_base.specs.History.{History}
use Rattle.cr_base.specs.Keys.{has_number, kept_under}
use Rattle.cr_base.specs.Lists.{is_nothing}
use Rattle.cr_base.specs.Logins.{command_wants_login}
use Rattle.cr_base.specs.Retries.{Judged}
use Rattle.cr_policy.specs.Added.{added, answered, made_by, stamp_added, IsAdded}
use Rattle.cr_policy.specs.Judge.{decide, decide_bulk}
use Rattle.cr_policy.specs.Legal.{IsCaller, IsKeyOf, IsNewKey, IsGiven, IsBulkGiven, Legal}
use Rattle.cr_policy.specs.View.{view}
use Rattle.cr_policy.proofs.AddedLaws.{adds_as_said}
use Rattle.cr_policy.proofs.BulkLaws.{bulk-draws}
use Rattle.cr_policy.proofs.DecideLaws.{decided-accepted, decided-bulk_accepted}
use Rattle.cr_policy.proofs.LegalLaws.{Legal-accepted, Legal-bulk_accepted}
use Rattle.cr_policy.proofs.NumberLaws.{is_under, new-unused, kept-own, kept-other, accepted-group, accepted-new}
use Rattle.cr_policy.proofs.ReceiptLaws.{FirstTells, names-stay, first-tells, bulk-tells}
use Rattle.cr_wire.specs.declared.what.What.{What}
use Rattle.cr_wire.specs.declared.what.What.TheVariants as whats
use Rattle.cr_wire.specs.declared.what.Wish.{Wish}
use Rattle.cr_wire.specs.Bounds.{IsBoundedWhat}
use Rattle.cr_wire.specs.Caller.{caller}
use Rattle.cr_session.specs.Retries.{Act, key_of, is_bulk}
use Rattle.cr_session.specs.Turning.{IsBoundedWish}
use Rattle.cr_session.proofs.Accepting.{Accepts, by_command, by_bulk}
use Rattle.cr_session.proofs.TurnLaws.{MayWish, caller-command, caller-key, caller-bulk}

-- ---- what an accepted wish adds

-- the receipt is that of a bulk of this group, or what the group's first entry tells
abbrev pub IsTold : Bool → History → History → Receipt → Type 0
IsTold true H group receipt = receipt ≡ receipts.Rows (length group)
IsTold false H [] receipt = Unit {0}
IsTold false H (e ∷ es) receipt = FirstTells H e.entry receipt

-- where it has a key: a user gives it, who makes the entries, and what its receipt tells
pub record IsKeyed (H : History) (u : Option ℕ) (stamp : Stamp) (bulk : Bool) (d : Drawn) : Type 0 where
  pub user : ℕ
  pub caller_is : u ≡ Some user
  pub maker : stamp.maker ≡ user
  pub told : IsTold bulk H d.group d.receipt

-- it adds a group under a stamp with its key, whose number is new; and that leads on to a legal history
pub record WishAdds (H : History) (w : Wish) (u : Option ℕ) (d : Drawn) : Type 0 where
  pub stamp : Stamp
  pub entries : List Entry
  pub group_is : d.group ≡ grouped stamp entries
  pub new : IsNewKey H (Some stamp.maker) stamp.key
  pub key_is : stamp.key ≡ key_of w.what
  pub legal : Legal (H ++ d.group)
  pub keyed : (key : RetryKey) → key_of w.what ≡ Some key → IsKeyed H u stamp (is_bulk w.what) d

-- a user's command is made by her: a registration is nobody's
made-by_user : (H : History) (user : ℕ) (command : Command) → IsCaller H (Some user) command
    → made_by (Some user) H command ≡ user
made-by_user H user (Register name digest) is = absurd (cc (is))
made-by_user H user command is = refl

module _ (H : History) (legal : Legal H) (d : Drawn) where
  first-told : (user : ℕ) (command : Command) (group : History)
      → map (λ (e : Stamped). e.entry) group ≡ added (Some user) H command
      → d.receipt ∷ [] ≡ answered (Some user) H command → IsTold false H group d.receipt
  first-told user command [] is told = tt
  first-told user command (e ∷ es) is told =
      first-tells user H legal command e.entry (map (λ (s : Stamped). s.entry) es) d.receipt (sym is) told

  -- a command with a key
  command-keyed : (u : Option ℕ) (at : ℕ) (key : Option RetryKey) (command : Command) (k : RetryKey) → key ≡ Some k
      → IsCaller H u command → IsKeyOf u key
      → IsAdded (stamp_added H (call_of u at key command)) (added u H command) (answered u H command) d
      → IsKeyed H u (stamp_added H (call_of u at key command)) false d
  command-keyed u at None command k is calls may adds = absurd (cc (is))
  command-keyed None at (Some key) command k is calls may adds = absurd may
  command-keyed (Some user) at (Some key) command k is calls may adds = record {
    user = user;
    caller_is = refl;
    maker = made-by_user H user command calls;
    told = first-told user command d.group adds.entries adds.receipt;
  }

  module _ (w : Wish) (bounded : IsBoundedWish w) where
    bounds : (what : What) → w.what ≡ what → IsBoundedWhat what
    bounds what is = subst (λ (x : What). IsBoundedWhat x) is bounded.what

    -- its key, told by what it is
    key-told : (what : What) (key : Option RetryKey) → w.what ≡ what → key_of what ≡ key → (k : RetryKey)
        → key_of w.what ≡ Some k → key ≡ Some k
    key-told what key is has k told = sym has ∙ ap key_of (sym is) ∙ told

    command-adds : (u : Option ℕ) (key : Option RetryKey) (command : Command)
        → MayWish H w u (whats.Command key command)
        → decide (view u H) (call_of u w.at key command) ≡ Judged (Ok d) → WishAdds H w u d
    command-adds u key command may decided =
        let call : Call = call_of u w.at key command in
        let bound = bounds (whats.Command key command) may.is in
        let calls : IsCaller H u command = caller-command H w u key command may in
        let keyed : IsKeyOf u key = caller-key H u (command_wants_login command) key calls bound.1 in
        let given : IsGiven H call =
        record { caller = calls; bounded = bound.0; moment = bounded.moment; key = keyed } in
        let accepted = decided-accepted H call d given decided in
        let group = accepted-group H call d legal accepted.0 accepted.1 in
        record {
          stamp = stamp_added H call;
          entries = group.entries;
          group_is = group.is;
          new = accepted-new H call accepted.0;
          key_is = ap key_of (sym may.is);
          legal = Legal-accepted H call d legal accepted.0 accepted.1;
          keyed = λ k told. subst (λ (x : What). IsKeyed H u (stamp_added H call) (is_bulk x) d) (sym may.is)
              (command-keyed u w.at key command k (key-told (whats.Command key command) key may.is refl k told) calls
              keyed
              (adds_as_said H call d legal calls accepted.1));
        }

    bulk-adds : (u : Option ℕ) (key : Option RetryKey) (rows : List BulkRow) → MayWish H w u (whats.Bulk key rows)
        → decide_bulk (view u H) (bulk_by (maker_of u) w.at key rows) ≡ Judged (Ok d) → WishAdds H w u d
    bulk-adds None key rows may decided = absurd (true≢false may.may)
    bulk-adds (Some user) key rows may decided =
        let bulk : BulkCall = bulk_by user w.at key rows in
        let given : IsBulkGiven H bulk =
        caller-bulk H w (Some user) key rows may (bounds (whats.Bulk key rows) may.is) bounded.moment in
        let accepted = decided-bulk_accepted H bulk d given decided in
        let draws = bulk-draws bulk.stamp H rows d accepted.1 in
        record {
          stamp = bulk.stamp;
          entries = draws.entries;
          group_is = ap (λ (x : Drawn). x.group) (sym draws.drawn_is);
          new = accepted.0.unused;
          key_is = ap key_of (sym may.is);
          legal = Legal-bulk_accepted H bulk d legal accepted.0 accepted.1;
          keyed = λ k told. subst (λ (x : What). IsKeyed H (Some user) bulk.stamp (is_bulk x) d) (sym may.is)
              (record {
                user = user;
                caller_is = refl;
                maker = refl;
                told = bulk-tells H bulk d legal given accepted.1;
              });
        }

    pub wish-adds : (u : Option ℕ) → Accepts H w u d → WishAdds H w u d
    wish-adds u (by_command key command may decided) = command-adds u key command may decided
    wish-adds u (by_bulk key rows may decided) = bulk-adds u key rows may decided

-- ---- what an act keeps

-- the first of these entries has this key, and there is one
abbrev pub IsUnder : RetryKey → History → Type 0
IsUnder key [] = ⊥
IsUnder key (e ∷ es) = e.stamp.key ≡ Some key

-- an act with a key is kept in a history: under its number stand the entries that it added, and these alone, and its
-- receipt is what they tell
pub record IsKept (H : History) (act : Act) (key : RetryKey) : Type 0 where
  pub user : ℕ
  pub caller_is : caller act.before act.wish ≡ Some user
  pub under : kept_under user key.number H ≡ act.drawn.group
  pub first : IsUnder key act.drawn.group
  pub told : IsTold (is_bulk act.wish.what) H act.drawn.group act.drawn.receipt
  pub accepts : Accepts act.before act.wish (caller act.before act.wish) act.drawn

abbrev pub IsKeptIf : History → Act → Type 0
IsKeptIf H act = (key : RetryKey) → key_of act.wish.what ≡ Some key → IsKept H act key

told-stays : (bulk : Bool) (H more group : History) (receipt : Receipt) → IsTold bulk H group receipt
    → IsTold bulk (H ++ more) group receipt
told-stays true H more group receipt is = is
told-stays false H more [] receipt is = tt
told-stays false H more (e ∷ es) receipt is =
    record { name = is.name; named = names-stay H more e.entry is.name is.named; told = is.told }

not_both : (key : RetryKey) (group : History) → IsUnder key group → [] ≡ group → ⊥
not_both key [] is none = is
not_both key (e ∷ es) is none = cc (none)

first-under : (key : RetryKey) (stamp : Stamp) (es : List Entry) → stamp.key ≡ Some key
    → is_nothing (grouped stamp es) ≡ false → IsUnder key (grouped stamp es)
first-under key stamp [] has some = absurd (true≢false some)
first-under key stamp (e ∷ []) has some = has
first-under key stamp (e ∷ next ∷ es) has some = has

-- what an opening history keeps under a number a later one keeps under it
abbrev pub KeepsOn : History → History → Type 0
KeepsOn opening H =
    (user number : ℕ) (e : Stamped) (es : History) → kept_under user number opening ≡ e ∷ es
    → kept_under user number H ≡ e ∷ es

module _ (H : History) (w : Wish) (d : Drawn) (adds : WishAdds H w (caller H w) d) where
  -- what is kept under a number stays, since nothing is added under it
  under-stays : (user number : ℕ) (group : History) → kept_under user number H ≡ group → ([] ≡ group → ⊥) → (b : Bool)
      → is_under user number adds.stamp ≡ b → kept_under user number (H ++ d.group) ≡ group
  under-stays user number group was some true is =
      absurd (some (sym (new-unused H user number adds.stamp.maker adds.stamp.key adds.new is) ∙ was))
  under-stays user number group was some false is =
      ap (λ (g : History). kept_under user number (H ++ g)) adds.group_is
      ∙ kept-other H user number adds.stamp adds.entries is ∙ was

  pub keeps-on : (opening : History) → KeepsOn opening H → KeepsOn opening (H ++ d.group)
  keeps-on opening keeps user number e es is =
      under-stays user number (e ∷ es) (keeps user number e es is) (λ none. cc (none)) (is_under user number adds.stamp)
      refl

  pub kept-stays : (act : Act) → IsKeptIf H act → IsKeptIf (H ++ d.group) act
  kept-stays act kept key is =
      let was : IsKept H act key = kept key is in
      record {
        user = was.user;
        caller_is = was.caller_is;
        under = under-stays was.user key.number act.drawn.group was.under (not_both key act.drawn.group was.first)
            (is_under was.user key.number adds.stamp) refl;
        first = was.first;
        told = told-stays (is_bulk act.wish.what) H d.group act.drawn.group act.drawn.receipt was.told;
        accepts = was.accepts;
      }

  -- and what was added is kept, where it isn't nothing
  pub kept-new : Accepts H w (caller H w) d → is_nothing d.group ≡ false
      → IsKeptIf (H ++ d.group) (record { before = H; wish = w; drawn = d })
  kept-new accepts some key is =
      let keyed = adds.keyed key is in
      let has : adds.stamp.key ≡ Some key = adds.key_is ∙ is in
      let here : is_under keyed.user key.number adds.stamp ≡ true =
      ap (λ (b : Bool). b && has_number key.number adds.stamp.key) (eq-eqb adds.stamp.maker keyed.user keyed.maker)
      ∙ ap (has_number key.number) has ∙ eq-eqb key.number key.number refl in
      record {
        user = keyed.user;
        caller_is = keyed.caller_is;
        under = ap (λ (g : History). kept_under keyed.user key.number (H ++ g)) adds.group_is
            ∙ kept-own H keyed.user key.number adds.stamp adds.entries adds.new here ∙ sym adds.group_is;
        first = subst (IsUnder key) (sym adds.group_is)
            (first-under key adds.stamp adds.entries has
            (ap (λ (g : History). is_nothing g) (sym adds.group_is) ∙ some));
        told = told-stays (is_bulk w.what) H d.group d.group d.receipt keyed.told;
        accepts = accepts;
      }
