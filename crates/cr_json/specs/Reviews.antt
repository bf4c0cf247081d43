-- SPDX-License-Identifier: Apache-2.0 OR MIT
-- A review, as the reviews of a paper tell it.
use Rattle.std.specs.Prelude.{ℕ, List, ◌++◌, Some, codes, decimal}
use Rattle.std.specs.Option.{option_map}
use Rattle.json.specs.Print.{quoted}
use Rattle.cr_base.specs.declared.review.ReviewLine.{ReviewLine}
use Rattle.cr_json.specs.Json.{Member, label_text, member_of, object_text}

-- the keys of a review in the order of their bytes, the last three where they are told
unfoldable pub review_members : ReviewLine → List Member
review_members review =
    member_of (codes "confidence") (Some (decimal review.confidence))
    ++ member_of (codes "label") (Some (label_text review.label))
    ++ member_of (codes "score") (Some (decimal review.score))
    ++ member_of (codes "to_authors") (Some (quoted review.to_authors))
    ++ member_of (codes "to_pc") (option_map quoted review.to_pc)
    ++ member_of (codes "user") (option_map quoted review.user)
    ++ member_of (codes "version") (option_map decimal review.version)

-- the JSON object of a review
abbrev pub review_text : ReviewLine → List ℕ
review_text review = object_text (review_members review)
