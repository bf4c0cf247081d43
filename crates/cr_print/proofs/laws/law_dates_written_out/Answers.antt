-- SPDX-License-Identifier: Apache-2.0 OR MIT
use Rattle.std.proofs.Common.{refl}
use Rattle.cr_json.specs.Times.{falls_in, civil_of}
use Rattle.cr_print.specs.Dates.{date_of, date_text}
use Rattle.cr_print.proofs.laws.law_dates_written_out.Goals as goal

pub returns-clause-example : goal.returns-clause-example
unfolding falls_in civil_of date_of date_text
returns-clause-example c = refl

pub returns-clause-first : goal.returns-clause-first
unfolding falls_in civil_of date_of date_text
returns-clause-first c = refl

pub returns-clause-leap_day : goal.returns-clause-leap_day
unfolding falls_in civil_of date_of date_text
returns-clause-leap_day c = refl

pub returns-clause-last : goal.returns-clause-last
unfolding falls_in civil_of date_of date_text
returns-clause-last c = refl
