-- SPDX-License-Identifier: Apache-2.0 OR MIT
-- Which papers a search finds. Each term goes by what the caller is told of a paper by its page, its reviews, its
-- comments and its response. What the caller isn't told makes a term false, and so its negation true: no search tells
-- what the answers don't.
use Rattle.std.specs.Prelude.{ℕ, Bool, true, false, not, ◌&&◌, ◌||◌, ◌==◌, List, [], ◌∷◌, Option, is_some, unwrap_or}
use Rattle.std.specs.Option.{option_map_or}
use Rattle.std.specs.List.{list_any}
use Rattle.std.specs.Char.{to_ascii_lowercase}
use Rattle.std.specs.Str.{bytes_eq}
use Rattle.cr_base.specs.declared.comment.CommentLine.{CommentLine}
use Rattle.cr_base.specs.declared.found.FoundPaper.{FoundPaper}
use Rattle.cr_base.specs.declared.page.Page.{Page}
use Rattle.cr_base.specs.declared.page.Reviewer.{Reviewer}
use Rattle.cr_base.specs.declared.review.ReviewLine.{ReviewLine}
use Rattle.cr_base.specs.declared.search.Feature.{Feature}
use Rattle.cr_base.specs.declared.search.Feature.TheVariants as features
use Rattle.cr_base.specs.declared.search.Status.{Status}
use Rattle.cr_base.specs.declared.search.Status.TheVariants.{Active, Withdrawn, Accepted}
use Rattle.cr_base.specs.declared.search.Node.{Node}
use Rattle.cr_base.specs.declared.search.Term.{Term}
use Rattle.cr_base.specs.declared.search.Term.TheVariants as terms
use Rattle.cr_base.specs.declared.words.Decision.{Decision}
use Rattle.cr_base.specs.Lists.{is_nothing}
use Rattle.cr_base.specs.Search.{Tree, asks, denies, both, either, tree_of}
use Rattle.cr_base.specs.Words.{decision_number}

-- ---- texts

-- the two bytes are equal, or one ASCII letter in upper and lower case
abbrev pub is_alike : ℕ → ℕ → Bool
is_alike b c = to_ascii_lowercase b == to_ascii_lowercase c

-- the text begins with the value
abbrev pub begins_alike : List ℕ → List ℕ → Bool
begins_alike [] text = true
begins_alike (b ∷ value) [] = false
begins_alike (b ∷ value) (c ∷ text) = is_alike b c && begins_alike value text

-- the value is in the text, whatever the case of ASCII letters
abbrev pub contains : List ℕ → List ℕ → Bool
contains value [] = begins_alike value []
contains value (c ∷ text) = begins_alike value (c ∷ text) || contains value text

-- ---- terms

-- what the caller is told of a paper, as terms ask: its page; whether it is accepted, and whether the caller is in
-- conflict with it; the reviews and the comments that the caller is answered, none if a rule is broken; and whether the
-- caller is answered its authors' response
pub record PaperTold : Type 0 where
  pub page : Page
  pub accepted : Bool
  pub conflicted : Bool
  pub reviews : List ReviewLine
  pub comments : List CommentLine
  pub responded : Bool

-- a text that is there has the value
abbrev pub text_has : List ℕ → Option (List ℕ) → Bool
text_has value text = option_map_or (contains value) text false

-- one of the names that are there has it
abbrev pub name_has : List ℕ → Option (List (List ℕ)) → Bool
name_has value names = option_map_or (list_any (contains value)) names false

-- the value is in the name of one of the reviewers whose names are told
abbrev pub reviewer_has : List ℕ → Option (List Reviewer) → Bool
reviewer_has value reviewers =
    option_map_or (list_any (λ (reviewer : Reviewer). text_has value reviewer.user)) reviewers false

-- the tag is one of those told
abbrev pub has_tag : List ℕ → Option (List (List ℕ)) → Bool
has_tag tag tags = option_map_or (list_any (bytes_eq tag)) tags false

-- a decision's number in rows; 0 if none was made
abbrev pub number_decided : Option Decision → ℕ
number_decided decision = option_map_or decision_number decision 0

-- the decision told is this one, or none was made if that is asked
abbrev pub has_decision : Option Decision → Option (Option Decision) → Bool
has_decision decision told =
    option_map_or (λ (d : Option Decision). number_decided d == number_decided decision) told false

-- the paper has this status, as told
abbrev pub stands_so : Status → PaperTold → Bool
stands_so Active told = option_map_or not told.page.withdrawn false
stands_so Withdrawn told = option_map_or (λ (b : Bool). b) told.page.withdrawn false
stands_so Accepted told = told.accepted

-- the paper has this feature, as told
abbrev pub has_feature : Feature → PaperTold → Bool
has_feature features.Content told =
    option_map_or (λ (versions : List ℕ). not (is_nothing versions)) told.page.versions false
has_feature features.Review told = not (is_nothing told.reviews)
has_feature features.Comment told = not (is_nothing told.comments)
has_feature features.Response told = told.responded
has_feature features.Decision told = option_map_or (λ (d : Option Decision). is_some d) told.page.decision false
has_feature features.Conflict told = told.conflicted
has_feature features.Mine told = is_some told.page.label

-- the term holds of a paper of which that is told
abbrev pub term_holds : PaperTold → Term → Bool
term_holds told (terms.Plain value) = text_has value told.page.title || text_has value told.page.abstract_
term_holds told (terms.Title value) = text_has value told.page.title
term_holds told (terms.Abstract value) = text_has value told.page.abstract_
term_holds told (terms.Author value) = name_has value told.page.authors
term_holds told (terms.Reviewer value) = reviewer_has value told.page.reviewers
term_holds told (terms.Tag tag) = has_tag tag told.page.tags
term_holds told (terms.Decision decision) = has_decision decision told.page.decision
term_holds told (terms.Status status) = stands_so status told
term_holds told (terms.Has feature) = has_feature feature told

-- ---- searches

-- the search holds, if this says which of its terms hold
abbrev pub tree_holds : (Term → Bool) → Tree → Bool
tree_holds holds (asks term) = holds term
tree_holds holds (denies s) = not (tree_holds holds s)
tree_holds holds (both s t) = tree_holds holds s && tree_holds holds t
tree_holds holds (either s t) = tree_holds holds s || tree_holds holds t

-- the empty one holds
abbrev pub search_holds : (Term → Bool) → List Node → Bool
search_holds holds nodes = option_map_or (tree_holds holds) (tree_of nodes) true

-- the paper has a title for the caller, and the search holds of it
abbrev pub is_found : PaperTold → List Node → Bool
is_found told nodes = is_some told.page.title && search_holds (term_holds told) nodes

-- what a search tells of a paper that it finds
abbrev pub found_paper : ℕ → PaperTold → FoundPaper
found_paper p told = record { paper = p; title = unwrap_or told.page.title [] }
