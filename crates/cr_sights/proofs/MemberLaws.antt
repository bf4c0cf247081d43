-- SPDX-License-Identifier: Apache-2.0 OR MIT
-- Members of a line, some at a time.
use Rattle.std.proofs.Common.{Bool, List, ◌++◌}
use Rattle.cr_json.specs.Json.{Added, Member}
use Rattle.cr_json.specs.Put.{Bytes}
use Rattle.cr_json.proofs.Objects.{◌then◌}

-- members, or lists of such, written one behind another: five of them, and six
pub five : {a b c d e f : Bytes} {p q r s t u : Bool} {k l m n o : List Member}
    → Added a b p q k → Added b c q r l → Added c d r s m → Added d e s t n → Added e f t u o
    → Added a f p u (k ++ l ++ m ++ n ++ o)
five first second third fourth fifth = first then second then third then fourth then fifth

pub six : {a b c d e f g : Bytes} {p q r s t u v : Bool} {k l m n o w : List Member}
    → Added a b p q k → Added b c q r l → Added c d r s m → Added d e s t n → Added e f t u o → Added f g u v w
    → Added a g p v (k ++ l ++ m ++ n ++ o ++ w)
six first second third fourth fifth sixth = first then second then third then fourth then fifth then sixth
