-- SPDX-License-Identifier: Apache-2.0 OR MIT
-- A legal history is legal where twins have each other's place at the paper.
use Rattle.std.proofs.Common.{ℕ, Bool, true, false, cond, ◌≡◌, ◌≤◌, ◌+◌, List, [], ◌∷◌, ◌++◌, length, eqb, refl}
use Rattle.std.proofs.Common.{sym, ap, subst, ◌∙◌, ◌||◌, ◌&&◌, append_assoc, append-nil, Option, Some, None, Result, Ok}
use Rattle.std.proofs.Common.{Err, length-append, arith}
use Rattle.std.specs.Prelude.{map, not, nat_lt, ◌==◌}
use Rattle.std.specs.List.{list_any}
use Rattle.std.proofs.lemmas.Bool.{eqb-true, or_parts, not-false, or_left}
use Rattle.std.proofs.lemmas.Bool.Decides.{nat_tests}
use Rattle.std.proofs.lemmas.List.{map-append}
use Rattle.std.proofs.lemmas.List.Concat.{flat_map-append}
use Rattle.std.proofs.lemmas.List.Folds.{list_any-append}
use Rattle.cr_base.specs.declared.bulk.Broken.{Broken}
use Rattle.cr_base.specs.declared.bulk.BulkRow.{BulkRow}
use Rattle.cr_base.specs.declared.command.Call.{Call}
use Rattle.cr_base.specs.declared.command.Command.{Command}
use Rattle.cr_base.specs.declared.command.Command.TheVariants as commands
use Rattle.cr_base.specs.declared.entry.Entry.{Entry}
use Rattle.cr_base.specs.declared.entry.Stamp.{Stamp}
use Rattle.cr_base.specs.declared.entry.Stamped.{Stamped}
use Rattle.cr_base.specs.declared.reply.Rule.{Rule}
use Rattle.cr_base.specs.declared.retry.RetryKey.{RetryKey}
use Rattle.cr_base.specs.Bounds.{IsBoundedCommand}
use Rattle.cr_base.specs.Bulk.{bulk_drawn}
use Rattle.cr_base.specs.Calls.{BulkCall, stamp_by, call_of, call_by}
use Rattle.cr_base.specs.Drawn.{Drawn, stamped, grouped}
use Rattle.cr_base.specs.History.{History, Registration, all_told_by, author_told, own_comment_told}
use Rattle.cr_base.specs.HistoryFacts.{is_author, own_comments_of, authors_of}
use Rattle.cr_base.specs.Keys.{kept_under, IsKeyOrNone}
use Rattle.cr_base.specs.Lists.{given, is_number}
use Rattle.cr_base.specs.Logins.{command_wants_login}
use Rattle.cr_base.specs.Moments.{IsMoment}
use Rattle.cr_base.specs.Words.{is_chair}
use Rattle.cr_base.proofs.Small.{eqb-self}
use Rattle.cr_history.specs.Invariants.{IsRegistered}
use Rattle.cr_policy.specs.Added.{added, stamp_added, next_comment}
use Rattle.cr_policy.specs.Judge.{judge, judge_bulk}
use Rattle.cr_policy.specs.Legal.{Move, calls, bulks, IsMoveAllowed, CallsAs, IsCaller, IsKeyOf, IsAllowed, IsNewKey}
use Rattle.cr_policy.specs.Legal.{moved, LeadsTo, Legal, followed_by, IsBulkAllowed}
use Rattle.cr_policy.specs.View.{view}
use Rattle.cr_policy.proofs.BulkLaws.{seen, IsReady, RowCalls, row-calls, rows-accepted, BulkDraws, bulk-draws}
use Rattle.cr_policy.proofs.LegalLaws.{Legal-moved, Legal-accepted, Legal-bulk_accepted, legal_invariants, given-bounded}
use Rattle.cr_permissions.specs.MayDo.{may_do}
use Rattle.cr_permissions.proofs.KeptStamps.{ready-unnumbered, seen-unnumbered}
use Rattle.cr_undeduced.specs.Makers.{stamp_of}
use Rattle.cr_undeduced.specs.Twins.{Twins, placed, twin_entry, twin_maker, twin_of, twinned, moves, renames, ArePeers}
use Rattle.cr_undeduced.specs.Twins.{first_moves, PeersInTurn, TwinsLegal}
use Rattle.cr_undeduced.proofs.MakersBulks.{adds-one, bulk-taken}
use Rattle.cr_undeduced.proofs.MakersCalls.{accepts, may-accepted, group-accepted, makes}
use Rattle.cr_undeduced.proofs.MakersFacts.{Alike, alike-append, alike-itself, stamp-same, stamp-other}
use Rattle.cr_undeduced.proofs.MakersLegal.{counts, counts-made, head-free, bulk_of, first-same}
use Rattle.cr_undeduced.proofs.MakersSaid.{registered-also, role-also, authors-also}
use Rattle.cr_undeduced.proofs.RefilledLegal.{leads-grow}
use Rattle.cr_undeduced.proofs.TwinAdds.{rename, rename-login, rename-bounded, giver, FirstPeers, CallTwin, call-twin}
use Rattle.cr_undeduced.proofs.TwinAdds.{Room, lead, lead_of, giver-registered, registered}
use Rattle.cr_undeduced.proofs.TwinBulks.{Step, Ready, AllStep, RowsTwin, rows-twin, hers}
use Rattle.cr_undeduced.proofs.TwinFacts.{maker-is, phase-twin, role-twin, registered-twin, accounts-twin, number-twin}

-- ---- of what stands ahead

author-before : (v p : ℕ) (H g : History) → is_author (Some v) p (H ++ g) ≡ false → is_author (Some v) p H ≡ false
author-before v p H g none =
    (or_parts (is_author (Some v) p H) (is_author (Some v) p g)
    (sym (ap (list_any (is_number (Some v)))
    (flat_map-append (λ (e : Stamped). author_told p e.stamp.maker e.entry) H g)
    ∙ list_any-append (is_number (Some v)) (authors_of p H) (authors_of p g)) ∙ none)).0

peers-before : (t : Twins) (before H g : History) → PeersInTurn t before (H ++ g) → PeersInTurn t before H
peers-before t before [] g peers = tt
peers-before t before (e ∷ H) g peers =
    (peers.0, λ more. alone H (peers.1 more), peers-before t (before ++ e ∷ []) H g peers.2)
  where
    alone : (H : History) → (moves t e || first_moves t (H ++ g)) ≡ false → (moves t e || first_moves t H) ≡ false
    alone [] none = ap (λ b. b || false) (or_parts (moves t e) (first_moves t g) none).0
    alone (s ∷ H) none = none

peers-behind : (t : Twins) (before H g : History) → PeersInTurn t before (H ++ g) → PeersInTurn t (before ++ H) g
peers-behind t before [] g peers = subst (λ (G : History). PeersInTurn t G g) (sym (append-nil before)) peers
peers-behind t before (e ∷ H) g peers =
    subst (λ (G : History). PeersInTurn t G g) (append_assoc before (e ∷ []) H)
    (peers-behind t (before ++ e ∷ []) H g peers.2)

comments-append : (u : Option ℕ) (H g : History) → own_comments_of u (H ++ g) ≡ own_comments_of u H + own_comments_of u g
comments-append u H g =
    ap length (flat_map-append (λ (e : Stamped). own_comment_told u e.stamp.maker e.entry) H g)
    ∙ length-append (all_told_by (own_comment_told u) H) (all_told_by (own_comment_told u) g)

-- nobody has written too many
abbrev Few : Twins → History → Type 0
Few t H = (user : ℕ) → own_comments_of (Some user) (twinned t H) ≤ 1000

few-before : (t : Twins) (H g : History) → Few t (H ++ g) → Few t H
few-before t H g few v =
    below (own_comments_of (Some v) (twinned t (H ++ g))) (own_comments_of (Some v) (twinned t H)) _
    (ap (own_comments_of (Some v)) (map-append (twin_of t) H g)
    ∙ comments-append (Some v) (twinned t H) (twinned t g)) (few v)
  where
    below : (n a b : ℕ) → n ≡ a + b → n ≤ 1000 → a ≤ 1000
    below n a b is most = omega arith

-- ---- the entries of one command or bulk

first-moves : (t : Twins) (stamp : Stamp) (next : Entry) (es : List Entry)
    → first_moves t (grouped stamp (next ∷ es)) ≡ not (eqb (twin_maker t stamp.maker next) stamp.maker)
first-moves t stamp next [] = refl
first-moves t stamp next (e ∷ es) = refl

-- where several stand together, each stays its maker's
stay-hers : (t : Twins) (H : History) (stamp : Stamp) (e next : Entry) (es : List Entry)
    → PeersInTurn t H (grouped stamp (e ∷ next ∷ es))
    → (eqb (twin_maker t stamp.maker e) stamp.maker ≡ true) × (eqb (twin_maker t stamp.maker next) stamp.maker ≡ true)
stay-hers t H stamp e next es peers =
    let both = or_parts (moves t (stamped stamp true e)) (first_moves t (grouped stamp (next ∷ es))) (peers.1 refl) in (
      not-false (eqb (twin_maker t stamp.maker e) stamp.maker) both.0,
      not-false (eqb (twin_maker t stamp.maker next) stamp.maker) (sym (first-moves t stamp next es) ∙ both.1),
    )

twin-group : (t : Twins) (H : History) (stamp : Stamp) (es : List Entry) → PeersInTurn t H (grouped stamp es)
    → twinned t (grouped stamp es)
    ≡ grouped (stamp_of (lead_of t stamp.maker stamp.maker es) stamp) (map (twin_entry t) es)
twin-group t H stamp [] peers = refl
twin-group t H stamp (e ∷ []) peers = refl
twin-group t H stamp (e ∷ next ∷ es) peers =
    let hold = stay-hers t H stamp e next es peers in
    let same : twin_maker t stamp.maker next ≡ twin_maker t stamp.maker e =
    eqb-true (twin_maker t stamp.maker next) stamp.maker hold.1
    ∙ sym (eqb-true (twin_maker t stamp.maker e) stamp.maker hold.0) in
    ap (λ (g : History). stamped (stamp_of (twin_maker t stamp.maker e) stamp) true (twin_entry t e) ∷ g)
    (twin-group t (H ++ stamped stamp true e ∷ []) stamp (next ∷ es) peers.2
    ∙ ap (λ w. grouped (stamp_of w stamp) (map (twin_entry t) (next ∷ es))) same)

-- ---- numbers

unused-twin : (user number : ℕ) (t : Twins) (H : History) → kept_under user number H ≡ []
    → kept_under user number (twinned t H) ≡ []
unused-twin user number t [] none = refl
unused-twin user number t (e ∷ H) none =
    let k = head-free user number (counts user number e.stamp) e (kept_under user number H) none in
    let rest : History = kept_under user number (twinned t H) in
    ap (λ b. cond b (twin_of t e ∷ rest) rest)
    (counts-made user number (twin_maker t e.stamp.maker e.entry) e.stamp k.0)
    ∙ unused-twin user number t H k.1

-- ---- one command or bulk

module _ (t : Twins) (A : History) (legal : Legal A) (legal' : Legal (twinned t A))
    (no_one : is_author (Some t.one) t.paper A ≡ false) (no_other : is_author (Some t.other) t.paper A ≡ false) where
  abbrev B : History
  B = twinned t A

  registered-there : (user : ℕ) → IsRegistered A user → IsRegistered B user
  registered-there user is =
      ap (list_any (λ (r : Registration). r.user == user)) (registered-twin t A) ∙ is

  key-there : (caller : Option ℕ) (key : Option RetryKey) → IsNewKey A caller key → IsNewKey B caller key
  key-there caller None is = tt
  key-there None (Some key) is = absurd is
  key-there (Some user) (Some key) is = unused-twin user key.number t A is

  -- a group of these behind the history
  abbrev Placed : Stamp → List Entry → Type 0
  Placed stamp es = Legal (B ++ grouped (stamp_of (lead_of t stamp.maker stamp.maker es) stamp) (map (twin_entry t) es))

  place : (stamp : Stamp) (es : List Entry) → PeersInTurn t A (grouped stamp es) → Placed stamp es
      → Legal (twinned t (A ++ grouped stamp es))
  place stamp es peers is =
      subst (λ (G : History). Legal G)
      (sym (map-append (twin_of t) A (grouped stamp es)
      ∙ ap (λ (g : History). B ++ g) (twin-group t A stamp es peers))) is

  place-none : (stamp : Stamp) → Placed stamp []
  place-none stamp = subst (λ (G : History). Legal G) (sym (append-nil B)) legal'

  first-peers : (stamp : Stamp) (es : List Entry) → PeersInTurn t A (grouped stamp es)
      → FirstPeers t A legal no_one no_other stamp.maker es
  first-peers stamp [] peers = tt
  first-peers stamp (e ∷ []) peers = peers.0
  first-peers stamp (e ∷ next ∷ es) peers = peers.0

  -- a command that wants a login, and adds these
  place-call : (v at : ℕ) (key : Option RetryKey) (command : Command) (es : List Entry)
      → command_wants_login command ≡ true → IsRegistered B v → IsBoundedCommand command → IsMoment at
      → IsKeyOf (Some v) key → IsNewKey B (Some v) key → may_do (Some v) at B command ≡ true
      → added (Some v) B command ≡ es → Legal (B ++ grouped (stamp_by v at key) es)
  place-call v at key command es login there bounded moment key_of unused may adds =
      let call : Call = call_of (Some v) at key command in
      let caller : IsCaller B (Some v) command =
      subst (λ (login : Bool). CallsAs B login (Some v)) (sym login) there in
      let k = accepts B call legal' caller may in
      subst (λ (g : History). Legal (B ++ g))
      (k.group ∙ (λ i. grouped (stamp_by (makes v B command login i) at key) (adds i)))
      (Legal-accepted B call k.drawn legal' (record {
        given = record { caller = caller; bounded = bounded; moment = moment; key = key_of };
        unused = unused;
      }) k.is)

  -- room for a comment more
  room-of : (u at : ℕ) (key : Option RetryKey) (command : Command)
      → Few t (A ++ grouped (stamp_by u at key) (added (Some u) A command))
      → Room t A legal no_one no_other u at command
  room-of u at key (commands.Comment None text) few = tt
  room-of u at key (commands.Comment (Some p) text) few =
      fewer (own_comments_of (Some (placed t p u)) (twinned t (A ++ grouped stamp es)))
      (own_comments_of (Some (placed t p u)) B) (own_comments_of (Some (placed t p u)) (twinned t (grouped stamp es)))
      (ap (own_comments_of (Some (placed t p u))) (map-append (twin_of t) A (grouped stamp es))
      ∙ comments-append (Some (placed t p u)) B (twinned t (grouped stamp es)))
      (ap (λ b. length (given b (next_comment p A) ++ []))
      (ap (eqb (placed t p u)) (maker-is (placed t p u) stamp) ∙ eqb-self (placed t p u)))
      (few (placed t p u))
    where
      stamp : Stamp
      stamp = stamp_by u at key

      es : List Entry
      es = added (Some u) A (commands.Comment (Some p) text)

      fewer : (n a b : ℕ) → n ≡ a + b → b ≡ 1 → n ≤ 1000 → nat_lt a 1000 ≡ true
      fewer n a b is more most = grind (arith, nat_tests)
  room-of u at key command few = tt

  -- a user's command
  place-user : (u at : ℕ) (key : Option RetryKey) (command : Command) (es : List Entry)
      → command_wants_login command ≡ true → IsRegistered A u → IsBoundedCommand command → IsMoment at
      → IsKeyOf (Some u) key → IsNewKey A (Some u) key → may_do (Some u) at A command ≡ true
      → added (Some u) A command ≡ es → PeersInTurn t A (grouped (stamp_by u at key) es)
      → Few t (A ++ grouped (stamp_by u at key) es) → Placed (stamp_by u at key) es
  place-user u at key command [] login there bounded moment key_of unused may adds peers few =
      place-none (stamp_by u at key)
  place-user u at key command (e ∷ es) login there bounded moment key_of unused may adds peers few =
      by (eqb (twin_maker t u e) u) refl
    where
      stamp : Stamp
      stamp = stamp_by u at key

      first : FirstPeers t A legal no_one no_other u (e ∷ es)
      first = first-peers (stamp_by u at key) (e ∷ es) peers

      twin : CallTwin t A legal no_one no_other u at command
      twin = call-twin t A legal no_one no_other u at command may
          (subst (FirstPeers t A legal no_one no_other u) (sym adds) first)
          (room-of u at key command
          (subst (λ (es : List Entry). Few t (A ++ grouped (stamp_by u at key) es)) (sym adds) few))

      led : giver t u command ≡ twin_maker t u e
      led = sym (lead t A legal no_one no_other u at command) ∙ ap (lead_of t u (giver t u command)) adds

      adds-other : added (Some (twin_maker t u e)) B (rename twin.text command) ≡ map (twin_entry t) (e ∷ es)
      adds-other = (λ i. added (Some (sym led i)) B (rename twin.text command)) ∙ twin.adds
          ∙ ap (map (twin_entry t)) adds

      may-other : may_do (Some (twin_maker t u e)) at B (rename twin.text command) ≡ true
      may-other = (λ i. may_do (Some (sym led i)) at B (rename twin.text command)) ∙ twin.may

      by : (b : Bool) → eqb (twin_maker t u e) u ≡ b
          → Legal (B ++ grouped (stamp_of (twin_maker t u e) (stamp_by u at key)) (map (twin_entry t) (e ∷ es)))
      by true same =
          let hers : twin_maker t u e ≡ u = eqb-true (twin_maker t u e) u same in
          subst (λ (stamp : Stamp). Legal (B ++ grouped stamp (map (twin_entry t) (e ∷ es))))
          (sym (stamp-same (twin_maker t u e) (stamp_by u at key) same))
          (place-call u at key (rename twin.text command) (map (twin_entry t) (e ∷ es))
          (rename-login twin.text command ∙ login) (registered-there u there)
          (rename-bounded twin.text command bounded) moment key_of (key-there (Some u) key unused)
          ((λ i. may_do (Some (sym hers i)) at B (rename twin.text command)) ∙ may-other)
          ((λ i. added (Some (sym hers i)) B (rename twin.text command)) ∙ adds-other))
      by false other =
          let w : ℕ = twin_maker t u e in
          let both : ArePeers t A = first (or_left (not (eqb w u)) (renames t e) (ap not other)) in
          let registered : IsRegistered A w = subst (λ w. IsRegistered A w) led
          (giver-registered t A legal no_one no_other u at command both (ap (λ w. eqb w u) led ∙ other)) in
          subst (λ (stamp : Stamp). Legal (B ++ grouped stamp (map (twin_entry t) (e ∷ es))))
          (sym (stamp-other w (stamp_by u at key) other))
          (place-call w at None (rename twin.text command) (map (twin_entry t) (e ∷ es))
          (rename-login twin.text command ∙ login) (registered-there w registered)
          (rename-bounded twin.text command bounded) moment tt tt may-other adds-other)

  -- ---- a command

  user-login : (u : ℕ) (login : Bool) → CallsAs A login (Some u) → (login ≡ true) × IsRegistered A u
  user-login u true caller = (refl, caller)
  user-login u false caller = cc

  call-placed : (caller : Option ℕ) (at : ℕ) (key : Option RetryKey) (command : Command) (drawn : Drawn)
      → IsAllowed A (call_of caller at key command)
      → judge (view caller A) (call_of caller at key command) ≡ Ok drawn
      → PeersInTurn t A (grouped (stamp_added A (call_of caller at key command)) (added caller A command))
      → Few t (A ++ grouped (stamp_added A (call_of caller at key command)) (added caller A command))
      → Placed (stamp_added A (call_of caller at key command)) (added caller A command)
  call-placed (Some u) at key command drawn allowed accepted peers few =
      let login = user-login u (command_wants_login command) allowed.given.caller in
      let same : stamp_added A (call_of (Some u) at key command) ≡ stamp_by u at key =
      ap (λ w. stamp_by w at key) (makes u A command login.0) in
      let es : List Entry = added (Some u) A command in
      subst (λ (stamp : Stamp). Placed stamp (added (Some u) A command)) (sym same)
      (place-user u at key command (added (Some u) A command) login.0 login.1 allowed.given.bounded allowed.given.moment
      allowed.given.key allowed.unused
      (may-accepted A (call_of (Some u) at key command) drawn legal allowed.given.caller accepted) refl
      (subst (λ (stamp : Stamp). PeersInTurn t A (grouped stamp (added (Some u) A command))) same peers)
      (subst (λ (stamp : Stamp). Few t (A ++ grouped stamp (added (Some u) A command))) same few))
  call-placed None at key (commands.Register name digest) drawn allowed accepted peers few =
      let call : Call = call_of None at key (commands.Register name digest) in
      let may : may_do None at B (commands.Register name digest) ≡ true =
      register-same ∙ may-accepted A call drawn legal allowed.given.caller accepted in
      let k = accepts B call legal' refl may in
      subst (λ (g : History). Legal (B ++ g))
      (k.group
      ∙ (λ i. grouped (stamp_by (length (accounts-twin t A i) + 1) at key)
      (registered t A legal no_one no_other 0 at name digest i))
      ∙ ap (λ (stamp : Stamp). grouped stamp (map (twin_entry t) (added None A (commands.Register name digest))))
      (sym (stamp-same (stamp_added A call).maker (stamp_added A call) (eqb-self (stamp_added A call).maker))))
      (Legal-accepted B call k.drawn legal' (record {
        given = record {
          caller = refl;
          bounded = allowed.given.bounded;
          moment = allowed.given.moment;
          key = allowed.given.key;
        };
        unused = key-there None key allowed.unused;
      }) k.is)
    where
      register-same : may_do None at B (commands.Register name digest) ≡ may_do None at A (commands.Register name digest)
      register-same =
          λ i. Rattle.std.specs.Prelude.is_none (number-twin t A name i) && nat_lt (length (accounts-twin t A i)) 9999
  call-placed None at key (commands.Tag paper tag true) drawn allowed accepted peers few =
      absurd allowed.given.caller
  call-placed None at key (commands.Tag paper tag false) drawn allowed accepted peers few =
      absurd allowed.given.caller
  call-placed None at key command drawn allowed accepted peers few = absurd allowed.given.caller

  -- ---- a bulk

  key-of : (u : ℕ) (key : Option RetryKey) → IsKeyOrNone key → IsKeyOf (Some u) key
  key-of u None is = tt
  key-of u (Some key) is = is

-- ---- several rows

author-also : (v p : ℕ) (H A : History) → Alike H A → is_author (Some v) p H ≡ is_author (Some v) p A
author-also v p H A alike = ap (list_any (is_number (Some v))) (authors-also H A alike p)

step-of : (t : Twins) (stamp : Stamp) (H A later : History) (e : Entry) (more : Bool) → Alike H A
    → is_author (Some t.one) t.paper (H ++ later) ≡ false → is_author (Some t.other) t.paper (H ++ later) ≡ false
    → ((moves t (stamped stamp more e) || renames t e) ≡ true → ArePeers t H)
    → eqb (twin_maker t stamp.maker e) stamp.maker ≡ true → Step t stamp.maker stamp.at A e
step-of t stamp H A later e more alike no_one no_other peers stays = record {
  no_one = sym (author-also t.one t.paper H A alike) ∙ author-before t.one t.paper H later no_one;
  no_other = sym (author-also t.other t.paper H A alike) ∙ author-before t.other t.paper H later no_other;
  peers = λ h. let k = peers h in record {
    one = ap (list_any (λ (r : Registration). r.user == t.one)) (sym (registered-also H A alike)) ∙ k.one;
    other = ap (list_any (λ (r : Registration). r.user == t.other)) (sym (registered-also H A alike)) ∙ k.other;
    role = sym (role-also H A alike (Some t.one)) ∙ k.role ∙ role-also H A alike (Some t.other);
  };
  stays = stays;
}

all-steps : (t : Twins) (stamp : Stamp) (H A : History) (es : List Entry) → Alike H A
    → is_author (Some t.one) t.paper (H ++ grouped stamp es) ≡ false
    → is_author (Some t.other) t.paper (H ++ grouped stamp es) ≡ false
    → PeersInTurn t H (grouped stamp es) → eqb (lead_of t stamp.maker stamp.maker es) stamp.maker ≡ true
    → AllStep t stamp.maker stamp.at A es
all-steps t stamp H A [] alike no_one no_other peers stays = tt
all-steps t stamp H A (e ∷ []) alike no_one no_other peers stays =
    (step-of t stamp H A (stamped stamp false e ∷ []) e false alike no_one no_other peers.0 stays, tt)
all-steps t stamp H A (e ∷ next ∷ es) alike no_one no_other peers stays =
    let same = append_assoc H (stamped stamp true e ∷ []) (grouped stamp (next ∷ es)) in (
      step-of t stamp H A (grouped stamp (e ∷ next ∷ es)) e true alike no_one no_other peers.0 stays,
      all-steps t stamp (H ++ stamped stamp true e ∷ []) (A ++ stamped (hers t stamp.maker stamp.at) false e ∷ [])
          (next ∷ es)
          (alike-append H A (stamped stamp true e ∷ []) (stamped (hers t stamp.maker stamp.at) false e ∷ []) alike
          (λ X told blind. refl))
          (ap (is_author (Some t.one) t.paper) same ∙ no_one) (ap (is_author (Some t.other) t.paper) same ∙ no_other) peers.2
          (stay-hers t H stamp e next es peers).1,
    )

module _ (t : Twins) (A : History) (legal : Legal A) (legal' : Legal (twinned t A)) (stamp : Stamp)
    (rows : List BulkRow) (drawn : Drawn) (allowed : IsBulkAllowed A (bulk_of stamp rows))
    (accepted : judge_bulk (view (Some stamp.maker) A) (bulk_of stamp rows) ≡ Ok drawn)
    (no_one : is_author (Some t.one) t.paper A ≡ false) (no_other : is_author (Some t.other) t.paper A ≡ false) where
  abbrev B' : History
  B' = twinned t A

  ready : IsReady stamp A
  ready = record {
    kept = legal_invariants A legal;
    registered = allowed.given.caller;
    bounds = given-bounded A (bulk_of stamp rows) allowed.given;
  }

  ready-there : IsReady stamp B'
  ready-there = record {
    kept = legal_invariants B' legal';
    registered = registered-there t A legal legal' no_one no_other stamp.maker allowed.given.caller;
    bounds = record { moment = allowed.given.moment; key = allowed.given.key };
  }

  -- one row is its command
  row-alone : (rows : List BulkRow) (e : Entry) → seen stamp A 1 rows ≡ Ok (e ∷ [])
      → PeersInTurn t A (grouped stamp (e ∷ [])) → Few t (A ++ grouped stamp (e ∷ []))
      → Placed t A legal legal' no_one no_other stamp (e ∷ [])
  row-alone [] e is peers few = cc
  row-alone (row ∷ rows) e is peers few =
      let all = rows-accepted stamp A 1 row rows (e ∷ []) ready is in
      let asked : RowCalls stamp A row all.drawn = row-calls stamp A row all.drawn ready all.judged in
      let same : all.first.entry ≡ e = first-same all.first.entry e all.more all.all in
      place-user t A legal legal' no_one no_other stamp.maker stamp.at stamp.key asked.command (e ∷ [])
      (user-login t A legal legal' no_one no_other stamp.maker (command_wants_login asked.command) asked.caller).0
      allowed.given.caller asked.told.bounded allowed.given.moment
      (key-of t A legal legal' no_one no_other stamp.maker stamp.key allowed.given.key)
      allowed.unused
      (may-accepted A (call_by stamp asked.command) all.drawn legal asked.caller asked.accepted)
      (adds-one stamp A row all.drawn all.first legal asked ∙ ap (λ (e : Entry). e ∷ []) same) peers few

  -- several stay their maker's
  rows-placed : (es : List Entry) → seen stamp A 1 rows ≡ Ok es → PeersInTurn t A (grouped stamp es)
      → is_author (Some t.one) t.paper (A ++ grouped stamp es) ≡ false
      → is_author (Some t.other) t.paper (A ++ grouped stamp es) ≡ false
      → eqb (lead_of t stamp.maker stamp.maker es) stamp.maker ≡ true
      → Legal (twinned t A ++ grouped stamp (map (twin_entry t) es))
  rows-placed es is peers one other stays =
      let both : Ready t stamp.maker stamp.at A = record {
        legal = legal;
        legal' = legal';
        ready = ready-unnumbered stamp A ready;
        ready' = ready-unnumbered stamp (twinned t A) ready-there;
      } in
      let twin : RowsTwin t stamp.maker stamp.at A 1 rows es = rows-twin t stamp.maker stamp.at rows 1 A es both
      (all-steps t stamp A A es (alike-itself A) one other peers stays)
      (seen-unnumbered stamp A ready 1 rows ∙ is) in
      let taken = bulk-taken A (twinned t A) (phase-twin t A) stamp rows drawn accepted stamp.maker stamp.key twin.others
      (map (twin_entry t) es) (λ h. ap is_chair (role-twin t A (Some stamp.maker)) ∙ h)
      (sym (seen-unnumbered stamp (twinned t A) ready-there 1 twin.others) ∙ twin.is) in
      Legal-bulk_accepted (twinned t A) (bulk_of stamp twin.others)
      (bulk_drawn stamp (length twin.others) (map (twin_entry t) es)) legal' (record {
        given = record {
          caller = registered-there t A legal legal' no_one no_other stamp.maker allowed.given.caller;
          bounded = subst (λ n. n ≤ 512) (sym twin.long) allowed.given.bounded;
          moment = allowed.given.moment;
          key = allowed.given.key;
        };
        unused = key-there t A legal legal' no_one no_other (Some stamp.maker) stamp.key allowed.unused;
      }) taken

  bulk-placed : (es : List Entry) → seen stamp A 1 rows ≡ Ok es → PeersInTurn t A (grouped stamp es)
      → is_author (Some t.one) t.paper (A ++ grouped stamp es) ≡ false
      → is_author (Some t.other) t.paper (A ++ grouped stamp es) ≡ false
      → Few t (A ++ grouped stamp es) → Placed t A legal legal' no_one no_other stamp es
  bulk-placed [] is peers one other few = place-none t A legal legal' no_one no_other stamp
  bulk-placed (e ∷ []) is peers one other few = row-alone rows e is peers few
  bulk-placed (e ∷ next ∷ es) is peers one other few =
      let stays = (stay-hers t A stamp e next es peers).0 in
      subst (λ (stamp : Stamp). Legal (twinned t A ++ grouped stamp (map (twin_entry t) (e ∷ next ∷ es))))
      (sym (stamp-same (twin_maker t stamp.maker e) stamp stays))
      (rows-placed (e ∷ next ∷ es) is peers one other stays)

-- ---- all of them

-- what is asked of the history, and so of what stands ahead in it
record Fits (t : Twins) (H : History) : Type 0 where
  peers : PeersInTurn t [] H
  no_one : is_author (Some t.one) t.paper H ≡ false
  no_other : is_author (Some t.other) t.paper H ≡ false
  few : Few t H

fits-before : (t : Twins) (H g : History) → Fits t (H ++ g) → Fits t H
fits-before t H g fits = record {
  peers = peers-before t [] H g fits.peers;
  no_one = author-before t.one t.paper H g fits.no_one;
  no_other = author-before t.other t.paper H g fits.no_other;
  few = few-before t H g fits.few;
}

module _ (t : Twins) where
  call-made : (H : History) (call : Call) → Legal H → Legal (twinned t H) → IsAllowed H call
      → (r : Result Drawn Rule) → judge (view call.caller H) call ≡ r → Fits t (followed_by H r)
      → Legal (twinned t (followed_by H r))
  call-made H call legal legal' allowed (Err rule) is fits = legal'
  call-made H call legal legal' allowed (Ok drawn) is fits =
      let group = group-accepted H call drawn legal allowed.given.caller is in
      let all : Fits t (H ++ grouped (stamp_added H call) (added call.caller H call.command)) =
      subst (λ (g : History). Fits t (H ++ g)) group fits in
      let there = peers-behind t [] H (grouped (stamp_added H call) (added call.caller H call.command)) all.peers in
      let before : Fits t H = fits-before t H drawn.group fits in
      subst (λ (g : History). Legal (twinned t (H ++ g))) (sym group)
      (place t H legal legal' before.no_one before.no_other (stamp_added H call) (added call.caller H call.command) there
      (call-placed t H legal legal' before.no_one before.no_other call.caller call.at call.key call.command drawn allowed
      is there all.few))

  bulk-made : (H : History) (bulk : BulkCall) → Legal H → Legal (twinned t H) → IsBulkAllowed H bulk
      → (r : Result Drawn Broken) → judge_bulk (view (Some bulk.stamp.maker) H) bulk ≡ r
      → Fits t (followed_by H r) → Legal (twinned t (followed_by H r))
  bulk-made H bulk legal legal' allowed (Err refusal) is fits = legal'
  bulk-made H bulk legal legal' allowed (Ok drawn) is fits =
      let draws : BulkDraws bulk.stamp H bulk.rows drawn = bulk-draws bulk.stamp H bulk.rows drawn is in
      let group : drawn.group ≡ grouped bulk.stamp draws.entries =
      ap (λ (d : Drawn). d.group) (sym draws.drawn_is) in
      let all : Fits t (H ++ grouped bulk.stamp draws.entries) =
      subst (λ (g : History). Fits t (H ++ g)) group fits in
      let there = peers-behind t [] H (grouped bulk.stamp draws.entries) all.peers in
      let before : Fits t H = fits-before t H drawn.group fits in
      subst (λ (g : History). Legal (twinned t (H ++ g))) (sym group)
      (place t H legal legal' before.no_one before.no_other bulk.stamp draws.entries there
      (bulk-placed t H legal legal' bulk.stamp bulk.rows drawn allowed is before.no_one before.no_other draws.entries
      draws.accepted there all.no_one all.no_other all.few))

  move-made : (H : History) (move : Move) → Legal H → Legal (twinned t H) → IsMoveAllowed H move
      → Fits t (moved H move) → Legal (twinned t (moved H move))
  move-made H (calls call) legal legal' allowed fits =
      call-made H call legal legal' allowed (judge (view call.caller H) call) refl fits
  move-made H (bulks bulk) legal legal' allowed fits =
      bulk-made H bulk legal legal' allowed (judge_bulk (view (Some bulk.stamp.maker) H) bulk) refl fits

  leads-made : (from to : History) (moves : List Move) → Legal from → Legal (twinned t from)
      → LeadsTo from moves to → Fits t to → Legal (twinned t to)
  leads-made from to [] legal legal' leads fits = subst (λ (H : History). Legal (twinned t H)) leads legal'
  leads-made from to (move ∷ moves) legal legal' leads fits =
      let rest = leads-grow (moved from move) to moves leads.1 in
      let first = fits-before t (moved from move) rest.0 (subst (Fits t) rest.1 fits) in
      leads-made (moved from move) to moves (Legal-moved from move legal leads.0)
      (move-made from move legal legal' leads.0 first) leads.1 fits

pub twins_legal : TwinsLegal
twins_legal t H legal twins =
    leads-made t [] H legal.0 ([], refl) ([], refl) legal.1
    (record { peers = twins.peers; no_one = twins.one; no_other = twins.other; few = twins.comments })
