-- SPDX-License-Identifier: Apache-2.0 OR MIT
use Rattle.cr_bounds.proofs.BoundsWalk.{entries-shown, marks-shown, moments-shown, keys-shown, papers-shown}
use Rattle.cr_bounds.proofs.BoundsWalk.{users-shown, names-shown, digests-shown, roles-shown, phases-shown}
use Rattle.cr_bounds.proofs.BoundsWalk.{deadlines-shown, modes-shown, makers-shown, titles-shown, abstracts-shown}
use Rattle.cr_bounds.proofs.BoundsWalk.{versions-shown, contents-shown, switches-shown, values-shown, seats-shown}
use Rattle.cr_bounds.proofs.BoundsWalk.{ordinals-shown, scores-shown, confidences-shown, texts-to-authors-shown}
use Rattle.cr_bounds.proofs.BoundsWalk.{texts-to-pc-shown, done-shown, numbers-shown, comments-shown, tags-shown}
use Rattle.cr_bounds.proofs.BoundsWalk.{decisions-shown, outcomes-shown, accepted-shown}
use Rattle.cr_bounds.proofs.BoundsSeats.{own-bids, reviewers-from-authors, reviewers-early, reviewers-unnamed}
use Rattle.cr_bounds.proofs.BoundsWritten.{forms-early, forms-from-authors, comments-from-authors, responses-shown}
use Rattle.cr_bounds.proofs.BoundsWritten.{writers-unnamed, private-tags, chairs-tags, decisions-early}
use Rattle.cr_bounds.proofs.BoundsWritten.{decisions-untold}
use Rattle.cr_bounds.proofs.BoundsTexts.{one-title, one-abstract, one-content, one-decision}
use Rattle.cr_bounds.proofs.BoundsLeft.{outsiders-shown}
use Rattle.cr_bounds.proofs.BoundsPublic.{accounts-shown, strangers-shown, nobody-shown}
use Rattle.cr_bounds.proofs.BoundsVisits.{externals-shown}
use Rattle.cr_bounds.proofs.law_bounds.Goals as goal

pub returns : goal.returns
returns c = record {
  entries = entries-shown;
  marks = marks-shown;
  moments = moments-shown;
  keys = keys-shown;
  papers = papers-shown;
  users = users-shown;
  names = names-shown;
  digests = digests-shown;
  roles = roles-shown;
  phases = phases-shown;
  deadlines = deadlines-shown;
  modes = modes-shown;
  makers = makers-shown;
  titles = titles-shown;
  abstracts = abstracts-shown;
  versions = versions-shown;
  contents = contents-shown;
  switches = switches-shown;
  values = values-shown;
  seats = seats-shown;
  ordinals = ordinals-shown;
  scores = scores-shown;
  confidences = confidences-shown;
  texts_to_authors = texts-to-authors-shown;
  texts_to_pc = texts-to-pc-shown;
  done = done-shown;
  numbers = numbers-shown;
  comments = comments-shown;
  tags = tags-shown;
  decisions = decisions-shown;
  outcomes = outcomes-shown;
  accepted = accepted-shown;
  own_bids = own-bids;
  reviewers_from_authors = reviewers-from-authors;
  reviewers_early = reviewers-early;
  reviewers_unnamed = reviewers-unnamed;
  forms_early = forms-early;
  forms_from_authors = forms-from-authors;
  comments_from_authors = comments-from-authors;
  responses = responses-shown;
  writers_unnamed = writers-unnamed;
  private_tags = private-tags;
  chairs_tags = chairs-tags;
  decisions_early = decisions-early;
  decisions_untold = decisions-untold;
  one_title = one-title;
  one_abstract = one-abstract;
  one_content = one-content;
  one_decision = one-decision;
  outsiders = outsiders-shown;
  externals = externals-shown;
  accounts = accounts-shown;
  strangers = strangers-shown;
  nobody = nobody-shown;
}
