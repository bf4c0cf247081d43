-- SPDX-License-Identifier: Apache-2.0 OR MIT
pub mod BoundsLeft
pub mod BoundsParts
pub mod BoundsPublic
pub mod BoundsSeats
pub mod BoundsTexts
pub mod BoundsVisits
pub mod BoundsWalk
pub mod BoundsWords
pub mod BoundsWritten
pub mod ResponseBoundLaws
