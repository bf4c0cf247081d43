-- SPDX-License-Identifier: Apache-2.0 OR MIT
pub mod BeginningAdds
pub mod BeginningAuthors
pub mod BeginningCalls
pub mod BeginningLaws
pub mod BeginningRows
pub mod BeginningTags
pub mod BeginningUsers
pub mod BeginningsExact
pub mod BulkParts
pub mod BulkSpelling
pub mod GroupLegal
pub mod GroupRows
