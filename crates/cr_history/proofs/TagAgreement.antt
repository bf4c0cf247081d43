-- SPDX-License-Identifier: Apache-2.0 OR MIT
-- The tags that a history leaves on at a paper are those that the table of tags has.
use Rattle.std.proofs.Common.{ℕ, Bool, true, false, cond, ◌≡◌, List, ◌++◌, eqb, refl, sym, ap, ◌∙◌}
use Rattle.std.specs.Prelude.{fold}
use Rattle.cr_base.specs.declared.entry.Entry.{Entry}
use Rattle.cr_base.specs.declared.entry.Entry.TheVariants.{Tagged}
use Rattle.cr_base.specs.declared.entry.Stamped.{Stamped}
use Rattle.cr_base.specs.declared.tag.SetTag.{SetTag}
use Rattle.cr_base.specs.Filed.{filed, filed_of}
use Rattle.cr_base.specs.History.{History, TagTold, tag_told}
use Rattle.cr_base.specs.HistoryFacts.{tags_of}
use Rattle.cr_base.specs.Lists.{given}
use Rattle.cr_base.specs.Tables.{Tables, no_tables, tables_of}
use Rattle.cr_base.specs.Tags.{TagsState, tag_owner, with_tag, tags_after}
use Rattle.cr_base.proofs.FiledLaws.{filed_of-tag_switched}
use Rattle.cr_base.proofs.Small.{eqb-swap}
use Rattle.cr_history.proofs.Folds.{told-always}

-- these tags, and what more turnings leave on
abbrev turned_on : List SetTag → List TagTold → List SetTag
turned_on ts more = fold (λ (ts : List SetTag) (t : TagTold). with_tag t.on t.tag ts) ts more

tag-entry : (p : ℕ) (tags : TagsState) (maker : ℕ) (e : Entry) (rest : List TagTold)
    → turned_on (filed_of p tags) (tag_told p maker e ++ rest) ≡ turned_on (filed_of p (tags_after tags maker e)) rest
tag-entry p tags maker (Tagged paper tag on) rest =
    by (eqb paper p)
    ∙ ap (λ (b : Bool). turned_on (cond b (with_tag on set (filed_of p tags)) (filed_of p tags)) rest) (eqb-swap paper p)
    ∙ ap (λ (ts : List SetTag). turned_on ts rest) (sym (filed_of-tag_switched p on (filed paper set) tags))
  where
    set : SetTag
    set = record { tag = tag; owner = tag_owner tag maker }

    told : TagTold
    told = record { tag = set; on = on }

    by : (b : Bool) → turned_on (filed_of p tags) (given b told ++ rest)
        ≡ turned_on (cond b (with_tag on set (filed_of p tags)) (filed_of p tags)) rest
    by true = refl
    by false = refl
tag-entry p tags maker e rest = refl

-- a paper's tags are those that the table has
pub tags_of-tables : (p : ℕ) (H : History) → tags_of p H ≡ filed_of p (tables_of H).tags
tags_of-tables p H =
    told-always turned_on (λ _. refl) (λ (t : Tables). filed_of p t.tags)
    (λ (s : Stamped). tag_told p s.stamp.maker s.entry)
    (λ t s. tag-entry p t.tags s.stamp.maker s.entry) no_tables H
