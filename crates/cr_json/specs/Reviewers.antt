-- SPDX-License-Identifier: Apache-2.0 OR MIT
-- Who bids on a paper and who reviews it, as its page tells.
use Rattle.std.specs.Prelude.{ℕ, List, ◌++◌, Some, codes, map}
use Rattle.std.specs.Option.{option_map}
use Rattle.json.specs.Print.{quoted}
use Rattle.cr_base.specs.declared.page.Bidder.{Bidder}
use Rattle.cr_base.specs.declared.page.Reviewer.{Reviewer}
use Rattle.cr_json.specs.Json.{Member, array_text, bid_text, label_text}
use Rattle.cr_json.specs.Json.{member_of, object_text, review_kind_text, truth_text}

-- the keys of a bid in the order of their bytes
unfoldable pub bidder_members : Bidder → List Member
bidder_members bidder =
    member_of (codes "bid") (Some (bid_text bidder.bid))
    ++ member_of (codes "user") (Some (quoted bidder.user))

-- the JSON object of a bid
abbrev pub bidder_text : Bidder → List ℕ
bidder_text bidder = object_text (bidder_members bidder)

-- the JSON array of bids
abbrev pub bids_text : List Bidder → List ℕ
bids_text bids = array_text (map bidder_text bids)

-- the keys of a reviewer in the order of their bytes, each but the label where it is told
unfoldable pub reviewer_members : Reviewer → List Member
reviewer_members reviewer =
    member_of (codes "done") (option_map truth_text reviewer.done)
    ++ member_of (codes "kind") (option_map review_kind_text reviewer.kind)
    ++ member_of (codes "label") (Some (label_text reviewer.label))
    ++ member_of (codes "user") (option_map quoted reviewer.user)

-- the JSON object of a reviewer
abbrev pub reviewer_text : Reviewer → List ℕ
reviewer_text reviewer = object_text (reviewer_members reviewer)

-- the JSON array of reviewers
abbrev pub reviewers_text : List Reviewer → List ℕ
reviewers_text reviewers = array_text (map reviewer_text reviewers)
