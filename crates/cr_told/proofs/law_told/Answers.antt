-- SPDX-License-Identifier: Apache-2.0 OR MIT
use Rattle.cr_told.proofs.ToldLists.{page_lists_told, contents_told, comments_told, responses_told, accepted_told}
use Rattle.cr_told.proofs.ToldLists.{me_told}
use Rattle.cr_told.proofs.ToldPages.{pages_told}
use Rattle.cr_told.proofs.ToldPartsAll.{parts_told}
use Rattle.cr_told.proofs.ToldPlaces.{places_told}
use Rattle.cr_told.proofs.ToldPublic.{accounts_told, conference_told, deadlines_told}
use Rattle.cr_told.proofs.ToldReports.{reports_told, letters_told}
use Rattle.cr_told.proofs.ToldReviews.{reviews_told}
use Rattle.cr_told.proofs.ToldSearches.{searches_told}
use Rattle.cr_told.proofs.law_told.Goals as goal

pub returns : goal.returns
returns c = record {
  pages = pages_told;
  page_lists = page_lists_told;
  contents = contents_told;
  reviews = reviews_told;
  comments = comments_told;
  responses = responses_told;
  accepted = accepted_told;
  me = me_told;
  accounts = accounts_told;
  conference = conference_told;
  deadlines = deadlines_told;
  reports = reports_told;
  letters = letters_told;
  searches = searches_told;
  places = places_told;
  parts = parts_told;
}
