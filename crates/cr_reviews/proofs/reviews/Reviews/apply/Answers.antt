-- SPDX-License-Identifier: Apache-2.0 OR MIT
use Rattle.std.proofs.Common.{◌∷◌, ap, sym, subst}
use Rattle.cr_rooms.proofs.GroupRooms.{room-for-rest}
use Rattle.cr_reviews.specs.Room.{reviews_of, paper_reviewed, ReviewsHaveRoom}
use Rattle.cr_reviews.specs.Seen.{SeenReviews}
use Rattle.cr_reviews.proofs.reviews.Reviews.apply.Goals as goal

pub returns-in-Reviewed-clause-room : goal.returns-in-Reviewed-clause-room
returns-in-Reviewed-clause-room c = λ rest has.
    let here = subst (λ (v : SeenReviews). ReviewsHaveRoom (c.args.stamped ∷ rest) v.rooms) (sym c.self.view_is) has in
    room-for-rest paper_reviewed c.args.stamped rest c.self.inside.forms.rooms c.file.new.self.rooms c.in-Reviewed.paper
    (ap reviews_of c.in-Reviewed.is) c.file.ensures.rooms here
