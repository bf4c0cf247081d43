-- SPDX-License-Identifier: Apache-2.0 OR MIT
pub mod ToldPages
pub mod ToldLists
pub mod ToldParts
pub mod ToldPlaces
pub mod ToldPublic
pub mod ToldReports
pub mod ToldReviews
pub mod ToldSearches
