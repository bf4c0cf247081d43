-- SPDX-License-Identifier: Apache-2.0 OR MIT
use Rattle.cr_bounds.proofs.ResponseBoundLaws.{reviews-awaited, reviews-for-authors, one-review, reviews-behind}
use Rattle.cr_bounds.proofs.ResponseBoundLaws.{unheard-forms, later-forms}
use Rattle.cr_bounds.proofs.law_response_bound.Goals as goal

pub returns : goal.returns
returns c = record {
  awaited = reviews-awaited;
  for_authors = reviews-for-authors;
  one = one-review;
  behind = reviews-behind;
  unheard = unheard-forms;
  later = later-forms;
}
