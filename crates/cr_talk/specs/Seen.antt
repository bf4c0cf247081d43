-- SPDX-License-Identifier: Apache-2.0 OR MIT
-- What contracts see of the table of comments and responses.
use Rattle.cr_base.specs.Talk.{TalkState}
use Rattle.cr_talk.specs.Room.{TalkRooms}

-- the comments, the sums and the responses, and by the paper's number for how many more of it there is room
pub record SeenTalk : Type 0 where
  pub talk : TalkState
  pub rooms : TalkRooms
