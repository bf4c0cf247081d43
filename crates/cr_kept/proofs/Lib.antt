-- SPDX-License-Identifier: Apache-2.0 OR MIT
pub mod BesideLaws
pub mod DrawerLaws
pub mod OwnLaws
pub mod SumLaws
pub mod ValueLaws
