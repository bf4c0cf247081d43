-- SPDX-License-Identifier: Apache-2.0 OR MIT
-- There is room for the contents that are filled in: where nobody uploads too much by them, or none is longer than the
-- one whose place it takes.
use Rattle.std.proofs.Common.{ℕ, Bool, true, false, ◌≡◌, ◌≤◌, ◌+◌, suc, [], ◌∷◌, ◌++◌, length, sym, ap, subst}
use Rattle.std.proofs.Common.{◌∙◌, arith, Option, Some, None, Ok, eqb}
use Rattle.std.specs.Prelude.{nat_lt}
use Rattle.std.proofs.lemmas.List.Concat.{flat_map-append}
use Rattle.std.proofs.lemmas.Bool.Decides.{nat_tests}
use Rattle.cr_base.specs.declared.command.Call.{Call}
use Rattle.cr_base.specs.declared.command.Command.{Command}
use Rattle.cr_base.specs.declared.command.Command.TheVariants as commands
use Rattle.cr_base.specs.declared.entry.Entry.{Entry}
use Rattle.cr_base.specs.declared.entry.Entry.TheVariants as entries
use Rattle.cr_base.specs.declared.entry.Stamp.{Stamp}
use Rattle.cr_base.specs.declared.entry.Stamped.{Stamped}
use Rattle.cr_base.specs.Calls.{stamp_of, call_of}
use Rattle.cr_base.specs.Checks.{upload_checks}
use Rattle.cr_base.specs.Deeds.{deed_at, drawn_by}
use Rattle.cr_base.specs.Drawn.{Drawn}
use Rattle.cr_base.specs.History.{History, all_told_by, own_bytes_told}
use Rattle.cr_base.specs.HistoryFacts.{own_bytes_of}
use Rattle.cr_base.specs.Judging.{judge_by_role}
use Rattle.cr_base.specs.Lists.{given, is_number, total}
use Rattle.cr_base.specs.Logins.{command_wants_login}
use Rattle.cr_base.specs.Papers.{own_bytes}
use Rattle.cr_base.specs.Resolving.{resolve}
use Rattle.cr_base.specs.Sources.{Facts, Shown, paper_named, is_late, facts_of_tables, shown_in_tables}
use Rattle.cr_base.specs.Tables.{Tables}
use Rattle.cr_base.proofs.CheckLaws.{judged-Ok}
use Rattle.cr_base.proofs.Small.{total-append, eqb-self}
use Rattle.cr_policy.specs.Legal.{CallsAs}
use Rattle.cr_undeduced.specs.Payload.{Payload, IsNoLonger, NoneLonger}
use Rattle.cr_undeduced.proofs.Fill.{fill, refilled, behind, refilled-append}
use Rattle.cr_undeduced.proofs.RefilledJudged.{HasRoom}

-- ---- how many bytes somebody has uploaded

pub bytes-append : (u : Option ℕ) (H g : History) → own_bytes_of u (H ++ g) ≡ own_bytes_of u H + own_bytes_of u g
bytes-append u H g =
    ap total (flat_map-append (λ (e : Stamped). own_bytes_told u e.stamp.maker e.entry) H g)
    ∙ total-append (all_told_by (own_bytes_told u) H) (all_told_by (own_bytes_told u) g)

own-bytes : (u : ℕ) (n : ℕ) (b : Bool) → b ≡ true → total (given b n ++ []) ≡ n
own-bytes u n true is = omega arith
own-bytes u n false is = cc

-- where nobody uploads too much, there is room for what is filled in
pub room : (xs : ℕ → Payload) (H : History) (call : Call) (drawn : Drawn) (t : Tables) (t' : Tables)
    → CallsAs H (command_wants_login call.command) call.caller
    → own_bytes t'.papers call.caller ≡ own_bytes_of call.caller (refilled xs H)
    → judge_by_role t call ≡ Ok drawn
    → ((v : ℕ) → own_bytes_of (Some v) (refilled xs (H ++ drawn.group)) ≤ 67108864)
    → HasRoom (facts_of_tables t' call.caller) (behind (length H) xs 0) call.command
room xs H call drawn t t' caller bytes accepted quota = by call.caller call.command caller bytes accepted
  where
    ys : ℕ → Payload
    ys = behind (length H) xs

    by : (u : Option ℕ) (command : Command) → CallsAs H (command_wants_login command) u
        → own_bytes t'.papers u ≡ own_bytes_of u (refilled xs H)
        → judge_by_role t (call_of u call.at call.key command) ≡ Ok drawn
        → HasRoom (facts_of_tables t' u) (behind (length H) xs 0) command
    by None (commands.Upload paper content) caller bytes accepted = absurd caller
    by (Some u) (commands.Upload paper content) caller bytes accepted =
        let facts : Facts = facts_of_tables t (Some u) in
        let shown : Shown = shown_in_tables t in
        let stamp : Stamp = stamp_of (call_of (Some u) call.at call.key (commands.Upload paper content)) in
        let draws : Drawn = drawn_by facts.accounts stamp
        (deed_at facts shown stamp (resolve facts.accounts (commands.Upload paper content))) in
        let k = judged-Ok
        (upload_checks (facts.standing paper) (paper_named facts shown paper) facts.own_bytes (length content)
        (is_late facts call.at)) draws drawn accepted in
        let more : ℕ = length (behind (length H) xs 0).content in
        let sum : own_bytes_of (Some u) (refilled xs (H ++ drawn.group))
        ≡ own_bytes_of (Some u) (refilled xs H) + more =
        ap (λ (d : Drawn). own_bytes_of (Some u) (refilled xs (H ++ d.group))) (sym k.1)
        ∙ ap (own_bytes_of (Some u)) (refilled-append xs H draws.group)
        ∙ bytes-append (Some u) (refilled xs H) (refilled (behind (length H) xs) draws.group)
        ∙ ap (λ n. own_bytes_of (Some u) (refilled xs H) + n) (own-bytes u more (eqb u u) (eqb-self u)) in
        subst (λ n. n + more ≤ 67108864) (sym bytes) (subst (λ n. n ≤ 67108864) sum (quota u))
    by u command caller bytes accepted = tt

-- ---- no content is longer

bytes-fewer : (u : Option ℕ) (xs : ℕ → Payload) (H : History) → NoneLonger xs H
    → own_bytes_of u (refilled xs H) ≤ own_bytes_of u H
bytes-fewer u xs [] shorter = omega arith
bytes-fewer u xs (e ∷ H) shorter = by e.entry shorter.0 (bytes-fewer u (λ n. xs (suc n)) H shorter.1)
  where
    one : (b : Bool) (n m a c : ℕ) → n ≤ m → a ≤ c → total (given b n) + a ≤ total (given b m) + c
    one true n m a c few rest = omega arith
    one false n m a c few rest = omega arith

    by : (entry : Entry) → IsNoLonger (xs 0) entry
        → own_bytes_of u (refilled (λ n. xs (suc n)) H) ≤ own_bytes_of u H
        → total (own_bytes_told u e.stamp.maker (fill (xs 0) entry)
        ++ all_told_by (own_bytes_told u) (refilled (λ n. xs (suc n)) H))
        ≤ total (own_bytes_told u e.stamp.maker entry ++ all_told_by (own_bytes_told u) H)
    by (entries.Uploaded paper version content) few rest =
        let b : Bool = is_number u e.stamp.maker in
        let k = one b (length (xs 0).content) (length content) (own_bytes_of u (refilled (λ n. xs (suc n)) H))
        (own_bytes_of u H) few rest in
        subst (λ n. n ≤ total (given b (length content) ++ all_told_by (own_bytes_told u) H))
        (sym (total-append (given b (length (xs 0).content)) (all_told_by (own_bytes_told u) (refilled (λ n. xs (suc n)) H))))
        (subst (λ n. total (given b (length (xs 0).content)) + own_bytes_of u (refilled (λ n. xs (suc n)) H) ≤ n)
        (sym (total-append (given b (length content)) (all_told_by (own_bytes_told u) H))) k)
    by (entries.Registered user name digest) few rest = rest
    by entry few rest = rest

pub none_longer-before : (xs : ℕ → Payload) (H g : History) → NoneLonger xs (H ++ g) → NoneLonger xs H
none_longer-before xs [] g shorter = tt
none_longer-before xs (e ∷ H) g shorter = (shorter.0, none_longer-before (λ n. xs (suc n)) H g shorter.1)

none_longer-behind : (xs : ℕ → Payload) (H g : History) → NoneLonger xs (H ++ g) → NoneLonger (behind (length H) xs) g
none_longer-behind xs [] g shorter = shorter
none_longer-behind xs (e ∷ H) g shorter = none_longer-behind (λ n. xs (suc n)) H g shorter.1

pub room-shorter : (xs : ℕ → Payload) (H : History) (call : Call) (drawn : Drawn) (t t' : Tables)
    → CallsAs H (command_wants_login call.command) call.caller
    → own_bytes t.papers call.caller ≡ own_bytes_of call.caller H
    → own_bytes t'.papers call.caller ≡ own_bytes_of call.caller (refilled xs H)
    → judge_by_role t call ≡ Ok drawn → NoneLonger xs (H ++ drawn.group)
    → HasRoom (facts_of_tables t' call.caller) (behind (length H) xs 0) call.command
room-shorter xs H call drawn t t' caller bytes bytes' accepted shorter =
    by call.caller call.command caller bytes bytes' accepted
  where
    sum : (a b n m : ℕ) → a ≤ b → n ≤ m → nat_lt 67108864 (b + m) ≡ false → a + n ≤ 67108864
    sum a b n m few less fits = grind (arith, nat_tests, few, less, fits)

    by : (u : Option ℕ) (command : Command) → CallsAs H (command_wants_login command) u
        → own_bytes t.papers u ≡ own_bytes_of u H → own_bytes t'.papers u ≡ own_bytes_of u (refilled xs H)
        → judge_by_role t (call_of u call.at call.key command) ≡ Ok drawn
        → HasRoom (facts_of_tables t' u) (behind (length H) xs 0) command
    by u (commands.Upload paper content) caller bytes bytes' accepted =
        let facts : Facts = facts_of_tables t u in
        let shown : Shown = shown_in_tables t in
        let stamp : Stamp = stamp_of (call_of u call.at call.key (commands.Upload paper content)) in
        let draws : Drawn = drawn_by facts.accounts stamp
        (deed_at facts shown stamp (resolve facts.accounts (commands.Upload paper content))) in
        let k = judged-Ok
        (upload_checks (facts.standing paper) (paper_named facts shown paper) facts.own_bytes (length content)
        (is_late facts call.at)) draws drawn accepted in
        let group : NoneLonger xs (H ++ draws.group) =
        subst (λ (d : Drawn). NoneLonger xs (H ++ d.group)) (sym k.1) shorter in
        let less = (none_longer-behind xs H draws.group group).0 in
        let few : own_bytes t'.papers u ≤ own_bytes t.papers u =
        subst (λ n. n ≤ own_bytes t.papers u) (sym bytes')
        (subst (λ n. own_bytes_of u (refilled xs H) ≤ n) (sym bytes)
        (bytes-fewer u xs H (none_longer-before xs H draws.group group))) in
        sum (own_bytes t'.papers u) (own_bytes t.papers u) (length (behind (length H) xs 0).content) (length content)
        few less k.0.1.1.1.1.1.0
    by u command caller bytes bytes' accepted = tt
