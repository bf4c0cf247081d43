-- SPDX-License-Identifier: Apache-2.0 OR MIT
-- What an accepted command comes to.
use Rattle.std.specs.Prelude.{ℕ, List, [], ◌∷◌, map, Result, Ok, Err}
use Rattle.cr_base.specs.declared.entry.Account.{Account}
use Rattle.cr_base.specs.declared.entry.Entry.{Entry}
use Rattle.cr_base.specs.declared.entry.Entry.TheVariants.{Named, Coauthor}
use Rattle.cr_base.specs.declared.entry.Stamp.{Stamp}
use Rattle.cr_base.specs.declared.reply.Rule.{Rule}
use Rattle.cr_base.specs.declared.words.Role.TheVariants.{Chair}
use Rattle.cr_base.specs.Accounts.{lines_of}
use Rattle.cr_base.specs.Drawn.{Drawn, grouped, receipt_of}
use Rattle.cr_base.specs.History.{History}
use Rattle.cr_base.specs.Sources.{name_told_by}
use Rattle.cr_judge.specs.declared.effect.Effect.{Effect}
use Rattle.cr_judge.specs.declared.effect.Rest.{Rest}
use Rattle.cr_judge.specs.declared.effect.Rest.TheVariants as rests

-- the entries after the first
abbrev pub behind : Rest → List Entry
behind rests.Nothing = []
behind (rests.FirstChair user) = Named user Chair ∷ []
behind (rests.Coauthors paper users) = map (λ (user : ℕ). Coauthor paper user) users

-- the stamp of an effect's entries
abbrev pub stamp_in : Effect → Stamp
stamp_in effect = effect.stamp

-- the first entry of an effect
abbrev pub first_of : Effect → Entry
first_of effect = effect.first

-- the entries of an effect, as a group
abbrev pub group_of : Effect → History
group_of effect = grouped effect.stamp (effect.first ∷ behind effect.rest)

-- what an effect adds, and its receipt
abbrev pub drawn_by : List Account → Effect → Drawn
drawn_by accounts effect = record {
  group = group_of effect;
  receipt = receipt_of (name_told_by (lines_of accounts) effect.first) effect.first;
}

-- what a judgement draws, or the broken rule
abbrev pub drawn_or_rule : List Account → Result Effect Rule → Result Drawn Rule
drawn_or_rule accounts (Ok effect) = Ok (drawn_by accounts effect)
drawn_or_rule accounts (Err rule) = Err rule

-- ---- one entry

-- the effect of this one entry under this stamp
abbrev pub alone : Stamp → Entry → Effect
alone stamp entry = record { stamp = stamp; first = entry; rest = rests.Nothing }

-- the effect of a judgement of a command that adds one entry, or the broken rule
abbrev pub alone_or_rule : Stamp → Result Entry Rule → Result Effect Rule
alone_or_rule stamp (Ok entry) = Ok (alone stamp entry)
alone_or_rule stamp (Err rule) = Err rule

-- what a judgement of a command that adds one entry draws, or the broken rule
abbrev pub entry_or_rule : List Account → Stamp → Result Entry Rule → Result Drawn Rule
entry_or_rule accounts stamp (Ok entry) = Ok (drawn_by accounts (alone stamp entry))
entry_or_rule accounts stamp (Err rule) = Err rule
