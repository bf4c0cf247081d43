-- SPDX-License-Identifier: Apache-2.0 OR MIT
-- What an accepted command adds is what its line says.
use Rattle.std.proofs.Common.{ℕ, Bool, true, false, cond, ◌≡◌, ◌+◌, suc, List, [], ◌∷◌, ◌++◌, append-nil, length, eqb}
use Rattle.std.proofs.Common.{refl, sym, ap, subst, ◌∙◌, ◌||◌, ◌&&◌, arith, Option, Some, None, Ok}
use Rattle.std.specs.Prelude.{not, map, filter, unwrap_or, is_some, is_none}
use Rattle.std.specs.List.{list_any, flat_map}
use Rattle.std.specs.Option.{option_map}
use Rattle.std.proofs.lemmas.Bool.{true≢false, eqb-true, not-false}
use Rattle.std.proofs.lemmas.Bool.Decides.{nat_tests}
use Rattle.std.proofs.Math.Bool.{or-false}
use Rattle.cr_base.specs.declared.command.Command.{Command}
use Rattle.cr_base.specs.declared.command.Command.TheVariants as commands
use Rattle.cr_base.specs.declared.entry.Entry.{Entry}
use Rattle.cr_base.specs.declared.entry.Entry.TheVariants as entries
use Rattle.cr_base.specs.declared.entry.Stamp.{Stamp}
use Rattle.cr_base.specs.declared.reply.AccountLine.{AccountLine}
use Rattle.cr_base.specs.declared.reply.Receipt.{Receipt}
use Rattle.cr_base.specs.declared.reply.Receipt.TheVariants as receipts
use Rattle.cr_base.specs.declared.retry.RetryKey.{RetryKey}
use Rattle.cr_base.specs.declared.target.Target.{Target}
use Rattle.cr_base.specs.declared.words.Role.{Role}
use Rattle.cr_base.specs.declared.words.Role.TheVariants.{Account, Chair}
use Rattle.cr_base.specs.Checks.{target_is}
use Rattle.cr_base.specs.Calls.{stamp_by, stamp_of, call_of}
use Rattle.cr_base.specs.Checks.{of_role, unassign_checks}
use Rattle.cr_base.specs.Deeds.{Deed, deed_at, drawn_by, is_missing}
use Rattle.cr_base.specs.Resolving.{resolve}
use Rattle.cr_base.specs.Drawn.{alone, Drawn, grouped, registration, besides, submission}
use Rattle.cr_base.specs.History.{History, FormTold}
use Rattle.cr_base.specs.HistoryFacts.{standing_of, accounts_of, ordinal_of, forms_of, own_forms_of, is_invited}
use Rattle.cr_base.specs.HistoryFacts.{is_written}
use Rattle.cr_base.specs.Lists.{listed, given, at_some, is_number, is_nothing}
use Rattle.cr_base.specs.Reviews.{forms_in, written_told}
use Rattle.cr_base.specs.Sources.{name_in, user_among, users_among, role_among, paper_named, target_named}
use Rattle.cr_base.specs.Tables.{tables_of}
use Rattle.cr_base.specs.Words.{is_member}
use Rattle.cr_base.proofs.CheckLaws.{NoneBroken, judged-Ok}
use Rattle.cr_base.proofs.FiledLaws.{filter-filter}
use Rattle.cr_base.proofs.Small.{eqb-swap}
use Rattle.cr_history.proofs.RuleFacts.{facts_of}
use Rattle.cr_policy.specs.Added.{next_user, next_paper, next_version, next_label, next_form, next_comment, without}
use Rattle.cr_policy.specs.Added.{for_user, once, for_label, added, answered, stamp_added, IsAdded, AddsAsSaid}
use Rattle.cr_policy.specs.Judge.{judge}
use Rattle.cr_policy.specs.Legal.{IsCaller, Legal}
use Rattle.cr_policy.specs.Sentences.{user_named}
use Rattle.cr_policy.specs.View.{view}
use Rattle.cr_policy.proofs.JudgedByHistory.{shown_of, told, forms, judge-history, number-same}
use Rattle.cr_policy.proofs.ReceiptLaws.{found-named}

-- ---- groups

-- a group of so many entries
group-added : (stamp : Stamp) (es : List Entry) (receipt : Receipt)
    → IsAdded stamp es (receipt ∷ []) (record { group = grouped stamp es; receipt = receipt })
group-added stamp [] receipt = record { entries = refl; stamps = tt; marks = refl; receipt = refl }
group-added stamp (e ∷ []) receipt = record { entries = refl; stamps = (refl, tt); marks = refl; receipt = refl }
group-added stamp (e ∷ next ∷ es) receipt =
    let rest = group-added stamp (next ∷ es) receipt in
    record {
      entries = ap (λ (xs : List Entry). e ∷ xs) rest.entries;
      stamps = (refl, rest.stamps);
      marks = ap (λ (xs : List Bool). true ∷ xs) rest.marks;
      receipt = refl;
    }

-- ---- co-authors

filter-same : (p q : ℕ → Bool) → ((x : ℕ) → p x ≡ q x) → (xs : List ℕ) → filter p xs ≡ filter q xs
filter-same p q same xs = λ i. filter (λ x. same x i) xs

abbrev none_of : List ℕ → ℕ → Bool
none_of these v = not (list_any (λ w. eqb w v) these)

any-behind : (these : List ℕ) (u v : ℕ) → list_any (λ w. eqb w v) (these ++ u ∷ [])
    ≡ (list_any (λ w. eqb w v) these || eqb u v)
any-behind [] u v = or-false (eqb u v)
any-behind (t ∷ these) u v =
    ap (λ (b : Bool). eqb t v || b) (any-behind these u v) ∙ said (eqb t v) (list_any (λ w. eqb w v) these) (eqb u v)
  where
    said : (a b c : Bool) → (a || (b || c)) ≡ ((a || b) || c)
    said a b c = grind arith

-- those of the users who are none of these, each once
besides-once : (these users : List ℕ) → besides these users ≡ filter (none_of these) (once users)
besides-once these [] = refl
besides-once these (u ∷ users) = by (list_any (λ v. eqb v u) these) refl (λ those. besides-once those users)
  where
    by : (b : Bool) → list_any (λ v. eqb v u) these ≡ b
        → ((those : List ℕ) → besides those users ≡ filter (none_of those) (once users))
        → cond b (besides these users) (u ∷ besides (these ++ u ∷ []) users)
        ≡ cond (not b) (u ∷ filter (none_of these) (without u (once users)))
        (filter (none_of these) (without u (once users)))
    by true is rest =
        rest these ∙ filter-same (none_of these) (λ v. not (eqb v u) && none_of these v) hidden (once users)
        ∙ filter-filter (λ v. not (eqb v u)) (none_of these) (once users)
      where
        hidden : (v : ℕ) → none_of these v ≡ (not (eqb v u) && none_of these v)
        hidden v = cases (eqb v u) refl
          where
            cases : (b : Bool) → eqb v u ≡ b → none_of these v ≡ (not b && none_of these v)
            cases true same = ap (none_of these) (eqb-true v u same) ∙ ap not is
            cases false other = refl
    by false is rest =
        ap (λ (ys : List ℕ). u ∷ ys)
        (rest (these ++ u ∷ []) ∙ filter-same (none_of (these ++ u ∷ [])) (λ v. not (eqb v u) && none_of these v) more
        (once users)
        ∙ filter-filter (λ v. not (eqb v u)) (none_of these) (once users))
      where
        more : (v : ℕ) → none_of (these ++ u ∷ []) v ≡ (not (eqb v u) && none_of these v)
        more v =
            ap not (any-behind these u v) ∙ said (list_any (λ w. eqb w v) these) (eqb u v) (eqb v u) (eqb-swap u v)
          where
            said : (a b c : Bool) → b ≡ c → not (a || b) ≡ (not c && not a)
            said a b c h = grind arith

others-once : (u : ℕ) (users : List ℕ) → besides (u ∷ []) users ≡ without u (once users)
others-once u users =
    besides-once (u ∷ []) users ∙ filter-same (none_of (u ∷ [])) (λ v. not (eqb v u)) alone (once users)
  where
    said : (b c : Bool) → b ≡ c → not (b || false) ≡ not c
    said b c h = grind arith

    alone : (v : ℕ) → none_of (u ∷ []) v ≡ not (eqb v u)
    alone v = said (eqb u v) (eqb v u) (eqb-swap u v)

-- ---- commands

module _ (u : Option ℕ) (H : History) (legal : Legal H) where
  pub user-same : (name : Option (List ℕ)) → user_among (accounts_of H) name ≡ user_named name H
  user-same None = refl
  user-same (Some name) = number-same u H legal name

  users-same : (names : List (Option (List ℕ)))
      → flat_map listed (users_among (accounts_of H) names) ≡ flat_map (λ name. listed (user_named name H)) names
  users-same [] = refl
  users-same (name ∷ names) = λ i. listed (user-same name i) ++ users-same names i

  module _ (m : ℕ) (key : Option RetryKey) where
    abbrev stamp_at : Command → Stamp
    stamp_at command = stamp_of (call_of u m key command)

    -- what a command does, by the facts of the history
    abbrev deed_of : Command → Deed
    deed_of command = deed_at (facts_of u H) (shown_of H) (stamp_at command) (resolve (facts_of u H).accounts command)

    -- that adds what its line says
    abbrev Adds : Command → Drawn → Type 0
    Adds command drawn =
        IsAdded (stamp_added H (call_of u m key command)) (added u H command) (answered u H command) drawn

    -- so what is drawn where it is accepted does
    accepted-adds : (command : Command) (drawn : Drawn) → judge (view u H) (call_of u m key command) ≡ Ok drawn
        → (NoneBroken (deed_of command).checks → Adds command (drawn_by (facts_of u H).accounts (stamp_at command) (deed_of command)))
        → Adds command drawn
    accepted-adds command drawn accepted adds =
        let k = judged-Ok (deed_of command).checks (drawn_by (facts_of u H).accounts (stamp_at command) (deed_of command)) drawn
        (sym (judge-history u H legal m key command) ∙ accepted) in
        subst (Adds command) k.1 (adds k.0)

    registered : (name digest : List ℕ)
        → Adds (commands.Register name digest)
        (drawn_by (facts_of u H).accounts (stamp_at (commands.Register name digest)) (deed_of (commands.Register name digest)))
    registered name digest =
        let stamp : Stamp = stamp_added H (call_of u m key (commands.Register name digest)) in
        let group : List Entry = registration (next_user H) name digest in
        subst
        (λ (es : List Entry). IsAdded stamp es (receipts.User (next_user H) ∷ [])
        (record { group = grouped stamp group; receipt = receipts.User (next_user H) })) (first (accounts_of H))
        (group-added stamp group (receipts.User (next_user H)))
      where
        later : (n : ℕ) → eqb (suc n + 1) 1 ≡ false
        later n = grind (arith, nat_tests)

        first : (lines : List AccountLine)
            → registration (length lines + 1) name digest ≡ entries.Registered (length lines + 1) name digest
            ∷ given (is_nothing lines) (entries.Named 1 Chair)
        first [] = refl
        first (a ∷ lines) =
            ap
            (λ (b : Bool). entries.Registered (length (a ∷ lines) + 1) name digest
            ∷ cond b (entries.Named (length (a ∷ lines) + 1) Chair ∷ []) []) (later (length lines))

-- of a user
module _ (w : ℕ) (H : History) (legal : Legal H) (m : ℕ) (key : Option RetryKey) where
  abbrev u : Option ℕ
  u = Some w

  abbrev stamp : Stamp
  stamp = stamp_by w m key

  abbrev asked : ℕ → Option ℕ → Option Target
  asked p target = target_named (facts_of u H) (shown_of H) u (Some p) target

  -- one entry that names a user, of whom the rules ask that she is there
  for-user : (asks : Option ℕ → Bool) (name : Option (List ℕ)) (entry : ℕ → Entry) (receipt : Receipt)
      → asks None ≡ true → asks (user_among (accounts_of H) name) ≡ false
      → IsAdded stamp (for_user name H entry) (receipt ∷ [])
      (record { group = grouped stamp (entry (unwrap_or (user_among (accounts_of H) name) 0) ∷ []); receipt = receipt })
  for-user asks name entry receipt nobody there =
      subst
      (λ (target : Option ℕ). IsAdded stamp (listed (option_map entry target)) (receipt ∷ [])
      (record {
        group = grouped stamp (entry (unwrap_or (user_among (accounts_of H) name) 0) ∷ []);
        receipt = receipt;
      })) (user-same u H legal name) (by (user_among (accounts_of H) name) there)
    where
      by : (target : Option ℕ) → asks target ≡ false
          → IsAdded stamp (listed (option_map entry target)) (receipt ∷ [])
          (record { group = grouped stamp (entry (unwrap_or target 0) ∷ []); receipt = receipt })
      by None there = absurd (true≢false (sym nobody ∙ there))
      by (Some v) there = group-added stamp (entry v ∷ []) receipt

  -- one that names a user on a paper
  for-target : (p : ℕ) (name : Option (List ℕ)) (entry : ℕ → Entry) (receipt : Receipt)
      → is_none (asked p (user_among (accounts_of H) name)) ≡ false
      → IsAdded stamp (for_user name H entry) (receipt ∷ [])
      (record { group = grouped stamp (entry (unwrap_or (user_among (accounts_of H) name) 0) ∷ []); receipt = receipt })
  for-target p name entry receipt there =
      for-user (λ (target : Option ℕ). is_none (asked p target)) name entry receipt refl there

  -- whoever is found by a name has it
  has-name : (name : List ℕ)
      → is_none (option_map of_role (role_among (accounts_of H) (user_among (accounts_of H) (Some name)))) ≡ false
      → unwrap_or (name_in (accounts_of H) (unwrap_or (user_among (accounts_of H) (Some name)) 0)) [] ≡ name
  has-name name there = by (user_among (accounts_of H) (Some name)) refl there
    where
      by : (target : Option ℕ) → user_among (accounts_of H) (Some name) ≡ target
          → is_none (option_map of_role (role_among (accounts_of H) target)) ≡ false
          → unwrap_or (name_in (accounts_of H) (unwrap_or target 0)) [] ≡ name
      by None is there = absurd (true≢false there)
      by (Some v) is there = ap (λ (o : Option (List ℕ)). unwrap_or o [])
          (found-named H legal name v (sym (user-same u H legal (Some name)) ∙ is))

  -- and one that changes the role of a user, whose name the receipt tells
  for-role : (name : List ℕ) (entry : ℕ → Entry) (receipt : List ℕ → Receipt)
      → is_none (option_map of_role (role_among (accounts_of H) (user_among (accounts_of H) (Some name)))) ≡ false
      → IsAdded stamp (for_user (Some name) H entry) (receipt name ∷ [])
      (record {
        group = grouped stamp (entry (unwrap_or (user_among (accounts_of H) (Some name)) 0) ∷ []);
        receipt = receipt
            (unwrap_or (name_in (accounts_of H) (unwrap_or (user_among (accounts_of H) (Some name)) 0)) []);
      })
  for-role name entry receipt there =
      subst
      (λ (told : List ℕ). IsAdded stamp (for_user (Some name) H entry) (receipt name ∷ [])
      (record {
        group = grouped stamp (entry (unwrap_or (user_among (accounts_of H) (Some name)) 0) ∷ []);
        receipt = receipt told;
      })) (sym (has-name name there))
      (for-user (λ (target : Option ℕ). is_none (option_map of_role (role_among (accounts_of H) target))) (Some name)
      entry (receipt name) refl there)

  does : (command : Command) → NoneBroken (deed_of u H legal m key command).checks
      → Adds u H legal m key command (drawn_by (facts_of u H).accounts stamp (deed_of u H legal m key command))
  does (commands.Register name digest) none = registered u H legal m key name digest
  does (commands.SetPhase to) none = group-added stamp (entries.PhaseSet to ∷ []) (receipts.Phase to)
  does (commands.SetDeadline phase until) none =
      group-added stamp (entries.DeadlineSet phase until ∷ []) (receipts.Deadline phase until)
  does (commands.SetMode to) none = group-added stamp (entries.ModeSet to ∷ []) (receipts.Mode to)
  does (commands.Submit title abstract names) none = by (list_any is_none (users_among (accounts_of H) names)) none.0
    where
      told : List ℕ
      told = flat_map listed (users_among (accounts_of H) names)

      by : (missing : Bool) → is_missing (accounts_of H) (cond missing None (Some told)) ≡ false
          → IsAdded stamp (added u H (commands.Submit title abstract names)) (receipts.Paper (next_paper H) ∷ [])
          (record {
            group = grouped stamp
                (submission w (next_paper H) title abstract (unwrap_or (cond missing None (Some told)) []));
            receipt = receipts.Paper (next_paper H);
          })
      by true there = absurd (true≢false there)
      by false there =
          subst
          (λ (us : List ℕ). IsAdded stamp (entries.Submitted (next_paper H) title abstract
          ∷ map (λ (v : ℕ). entries.Coauthor (next_paper H) v) us)
          (receipts.Paper (next_paper H) ∷ [])
          (record {
            group = grouped stamp (submission w (next_paper H) title abstract told);
            receipt = receipts.Paper (next_paper H);
          }))
          (others-once w told ∙ ap (λ (us : List ℕ). without w (once us)) (users-same u H legal names))
          (group-added stamp (submission w (next_paper H) title abstract told) (receipts.Paper (next_paper H)))
  does (commands.Revise None title abstract) none = absurd (true≢false none.0)
  does (commands.Revise (Some p) title abstract) none =
      group-added stamp (entries.Revised p title abstract ∷ []) (receipts.Changed p)
  does (commands.Upload None content) none = absurd (true≢false none.0)
  does (commands.Upload (Some p) content) none =
      group-added stamp (entries.Uploaded p (next_version p H) content ∷ []) (receipts.Version (next_version p H))
  does (commands.Withdraw None) none = absurd (true≢false none.0)
  does (commands.Withdraw (Some p)) none = group-added stamp (entries.Withdrawn p ∷ []) (receipts.Changed p)
  does (commands.Bid None value) none = absurd (true≢false none.0)
  does (commands.Bid (Some p) value) none = group-added stamp (entries.Bid p value ∷ []) (receipts.Bid value)
  does (commands.Respond None text) none = absurd (true≢false none.0)
  does (commands.Respond (Some p) text) none = group-added stamp (entries.Responded p text ∷ []) (receipts.Paper p)
  does (commands.Comment None text) none = absurd (true≢false none.0)
  does (commands.Comment (Some p) text) none =
      group-added stamp (entries.Commented p (next_comment p H) (ordinal_of u p H) text ∷ [])
      (receipts.Comment (next_comment p H))
  does (commands.Tag None tag on) none = absurd (true≢false none.0)
  does (commands.Tag (Some p) tag on) none = group-added stamp (entries.Tagged p tag on ∷ []) (receipts.Changed p)
  does (commands.Decide None decision) none = absurd (true≢false none.0)
  does (commands.Decide (Some p) decision) none =
      group-added stamp (entries.Decided p decision ∷ []) (receipts.Changed p)
  does (commands.Name None role) none = absurd (true≢false none.0)
  does (commands.Name (Some name) role) none =
      for-role name (λ v. entries.Named v role) (λ told. receipts.Named told role) none.0
  does (commands.Dismiss None) none = absurd (true≢false none.0)
  does (commands.Dismiss (Some name)) none =
      for-role name (λ v. entries.Dismissed v) (λ told. receipts.Named told Account) none.0
  does (commands.Invite None name) none = absurd (true≢false none.0)
  does (commands.Invite (Some p) name) none =
      for-target p name (λ v. entries.Invited p v) (receipts.Changed p) none.1.0
  does (commands.Uninvite None name) none = absurd (true≢false none.0)
  does (commands.Uninvite (Some p) name) none =
      for-target p name (λ v. entries.Uninvited p v) (receipts.Changed p) none.1.0
  does (commands.SetConflict None name on) none = absurd (true≢false none.0)
  does (commands.SetConflict (Some p) name on) none =
      for-target p name (λ v. entries.Conflict p v on) (receipts.Changed p) none.1.0
  does (commands.Assign None name kind) none = absurd (true≢false none.0)
  does (commands.Assign (Some p) name kind) none =
      for-target p name (λ v. entries.Assigned p v kind (next_label p H)) (receipts.Label (next_label p H)) none.1.0
  does (commands.Unassign None name) none = absurd (true≢false none.0)
  does (commands.Unassign (Some p) name) none =
      subst
      (λ (target : Option ℕ). IsAdded stamp (flat_map (λ v. for_label v p H (λ o. entries.Unassigned p v o))
      (listed target)) (receipts.Changed p ∷ [])
      (alone stamp (entries.Unassigned p (unwrap_or there 0) (unwrap_or (ordinal_of there p H) 0))))
      (user-same u H legal name) (each there none)
    where
      there : Option ℕ
      there = user_among (accounts_of H) name

      -- the user named, as the rules ask of her
      target_at : ℕ → ℕ → Role → Target
      target_at p v role =
          let wrote : Bool = list_any (is_number (Some v)) ((shown_of H).authors p) in
          record {
            role = role;
            herself = eqb v w;
            author = wrote;
            conflicted = wrote || list_any (is_number (Some v)) ((shown_of H).conflicts p);
            reviewer = is_some (ordinal_of (Some v) p H);
            external = not (is_member role) && is_invited (Some v) p H;
          }

      -- who reviews has a seat
      seated : (role : Option Role) (target : Role → Target) (seat : Bool) → ((r : Role) → (target r).reviewer ≡ seat)
          → not (target_is (λ (user : Target). user.reviewer) (option_map target role)) ≡ false → seat ≡ true
      seated None target seat is h = absurd (true≢false h)
      seated (Some r) target seat is h = sym (is r) ∙ not-false (target r).reviewer h

      under : (v : ℕ) (seat : Option ℕ) → is_some seat ≡ true
          → IsAdded stamp (listed (option_map (λ o. entries.Unassigned p v o) seat) ++ []) (receipts.Changed p ∷ [])
          (alone stamp (entries.Unassigned p v (unwrap_or seat 0)))
      under v None h = absurd (true≢false (sym h))
      under v (Some o) h = group-added stamp (entries.Unassigned p v o ∷ []) (receipts.Changed p)

      each : (target : Option ℕ)
          → NoneBroken (unassign_checks (standing_of u (Some p) H) (paper_named (facts_of u H) (shown_of H) (Some p))
          (asked p target) (at_some (λ o. is_written p o H) (ordinal_of target p H)))
          → IsAdded stamp (flat_map (λ v. for_label v p H (λ o. entries.Unassigned p v o)) (listed target))
          (receipts.Changed p ∷ [])
          (alone stamp (entries.Unassigned p (unwrap_or target 0) (unwrap_or (ordinal_of target p H) 0)))
      each None none = absurd (true≢false none.1.0)
      each (Some v) none =
          under v (ordinal_of (Some v) p H)
          (seated (role_among (accounts_of H) (Some v)) (target_at p v) (is_some (ordinal_of (Some v) p H)) (λ r. refl)
          none.1.1.1.1.1.1.0)
  does (commands.Review None form) none = absurd (true≢false none.0)
  does (commands.Review (Some p) form) none =
      under (ordinal_of u p H) refl (not-false (is_some (ordinal_of u p H)) none.1.1.1.0)
    where
      -- her forms are those under her label
      hers : (o : ℕ) → ordinal_of u p H ≡ Some o → own_forms_of u p H ≡ forms_of p o H
      hers o is =
          (forms u H legal).own u p
          ∙ ap (λ (seat : Option ℕ). flat_map (λ (o : ℕ). map written_told (forms_in (tables_of H).reviews p o))
          (listed seat))
          (sym ((told u H legal).ordinal u p) ∙ is)
          ∙ append-nil (map written_told (forms_in (tables_of H).reviews p o))
          ∙ sym ((told u H legal).forms p o)

      under : (seat : Option ℕ) → ordinal_of u p H ≡ seat → is_some seat ≡ true
          → IsAdded stamp (listed (option_map (λ o. entries.Reviewed p o (next_form p o H) form) seat))
          (listed (option_map (λ o. receipts.Version (next_form p o H)) seat))
          (alone stamp (entries.Reviewed p (unwrap_or seat 0) (length (own_forms_of u p H) + 1) form))
      under None is h = absurd (true≢false (sym h))
      under (Some o) is h =
          subst (λ (n : ℕ). IsAdded stamp (entries.Reviewed p o (next_form p o H) form ∷ [])
          (receipts.Version (next_form p o H) ∷ []) (alone stamp (entries.Reviewed p o (n + 1) form)))
          (sym (ap (λ (fs : List FormTold). length fs) (hers o is)))
          (group-added stamp (entries.Reviewed p o (next_form p o H) form ∷ []) (receipts.Version (next_form p o H)))

-- ---- the law

pub adds_as_said : AddsAsSaid
adds_as_said H call drawn = by call.caller call.command
  where
    by : (caller : Option ℕ) (command : Command) → Legal H → IsCaller H caller command
        → judge (view caller H) (call_of caller call.at call.key command) ≡ Ok drawn
        → IsAdded (stamp_added H (call_of caller call.at call.key command)) (added caller H command)
        (answered caller H command) drawn
    by None (commands.Register name digest) legal calls accepted =
        accepted-adds None H legal call.at call.key (commands.Register name digest) drawn accepted
        (λ none. registered None H legal call.at call.key name digest)
    by None (commands.Tag paper tag true) legal calls accepted = absurd calls
    by None (commands.Tag paper tag false) legal calls accepted = absurd calls
    by None _ legal calls accepted = absurd calls
    by (Some w) command legal calls accepted =
        accepted-adds (Some w) H legal call.at call.key command drawn accepted
        (does w H legal call.at call.key command)
