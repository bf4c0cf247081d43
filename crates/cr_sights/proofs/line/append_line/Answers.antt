-- SPDX-License-Identifier: Apache-2.0 OR MIT
use Rattle.std.proofs.Common.{◌≡◌, ◌∙◌, ◌++◌, ap, append_assoc, codes, Ok}
use Rattle.cr_json.specs.Json.{object_text}
use Rattle.cr_json.proofs.Objects.{◌then◌, closed}
use Rattle.cr_sights.specs.Lines.{sighting_members, line_text}
use Rattle.cr_sights.proofs.line.append_line.Goals as goal

pub returns : goal.returns
unfolding line_text
returns c =
    let before = c.args.into.now in
    let object = object_text (sighting_members c.args.sighting.now) in
    let members = c.in_ok-add_first.ensures then c.in_ok-add_second.ensures then c.in_ok-add_third.ensures in
    let all = members then c.in_ok-add_fourth.ensures then c.in_ok-add_fifth.ensures then c.in_ok-add_last.ensures in
    let whole : c.close.new.into.items ≡ before.items ++ object =
    closed {E = Unit {0}} (Ok tt) before c.open.new.into c.add_last.new.into c.close.new.into _ _ _
    c.in_ok-object.ensures.text c.in_ok-object.ensures.first all c.in_ok-close.ensures.text in
    c.in_ok-push.ensures.items ∙ ap (λ b. b ++ codes "\n") whole ∙ append_assoc before.items object (codes "\n")
