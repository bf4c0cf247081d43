-- SPDX-License-Identifier: Apache-2.0 OR MIT
-- The content of a paper's page, by its keys (docs/API.md).
use Rattle.std.specs.Prelude.{ℕ, List, ◌++◌, Some, codes, decimal}
use Rattle.std.specs.Option.{option_map}
use Rattle.json.specs.Print.{quoted}
use Rattle.cr_base.specs.declared.page.Page.{Page}
use Rattle.cr_json.specs.Json.{Member, member_of, truth_text, bid_text, decided_text}
use Rattle.cr_json.specs.Json.{label_text, names_text, numbers_text, object_text}
use Rattle.cr_json.specs.Reviewers.{bids_text, reviewers_text}

-- the keys of a page in the order of their bytes, each where it is told
unfoldable pub page_members : Page → List Member
page_members page =
    member_of (codes "abstract") (option_map quoted page.abstract_)
    ++ member_of (codes "authors") (option_map names_text page.authors)
    ++ member_of (codes "bid") (option_map bid_text page.bid)
    ++ member_of (codes "bids") (option_map bids_text page.bids)
    ++ member_of (codes "conflict") (option_map truth_text page.conflict)
    ++ member_of (codes "conflicts") (option_map names_text page.conflicts)
    ++ member_of (codes "decision") (option_map decided_text page.decision)
    ++ member_of (codes "declared") (option_map names_text page.declared)
    ++ member_of (codes "label") (option_map label_text page.label)
    ++ member_of (codes "paper") (Some (decimal page.paper))
    ++ member_of (codes "reviewers") (option_map reviewers_text page.reviewers)
    ++ member_of (codes "tags") (option_map names_text page.tags)
    ++ member_of (codes "title") (option_map quoted page.title)
    ++ member_of (codes "versions") (option_map numbers_text page.versions)
    ++ member_of (codes "withdrawn") (option_map truth_text page.withdrawn)

-- the JSON object of a paper's page
unfoldable pub page_content : Page → List ℕ
page_content page = object_text (page_members page)
