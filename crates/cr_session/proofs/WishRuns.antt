-- SPDX-License-Identifier: Apache-2.0 OR MIT
-- More wishes behind those that were judged, and more bytes behind the text.
use Rattle.std.proofs.Common.{◌≡◌, ℕ, ◌+◌, List, ◌++◌, length, sym, ap, subst}
use Rattle.std.proofs.lemmas.List.{map-append, length-map}
use Rattle.cr_http.specs.Requests.{RequestText, End, SpellsFrom, BeginsFrom, ReachesFrom}
use Rattle.cr_wire.specs.declared.what.Wish.{Wish}
use Rattle.cr_wire.proofs.WishLaws.{as_many, joined}
use Rattle.cr_session.specs.Replay.{JudgedWish, wishes_of}
use Rattle.cr_session.specs.Wishes.{Spells, Begins, Reaches}
use Rattle.cr_wire.specs.Wishes.{AreWishes, closes_behind}
use Rattle.cr_session.proofs.Runs.{spells_after, begins_after, reaches_after, reaches_more, spells_more, begins_more}
use Rattle.cr_session.proofs.Runs.{spells_begins, reaches_begins, IsClosing}

-- there are as many requests as wishes, from any number on
numbered : (n : ℕ) (rs : List RequestText) (ws : List Wish) → AreWishes rs ws → n + length ws ≡ n + length rs
numbered n rs ws are = ap (λ k. n + k) (as_many rs ws are)

-- ---- wishes behind wishes

spells_wishes : (n : ℕ) (text : List ℕ) (ws : List Wish) (rest : List ℕ) (end : End) (vs : List Wish)
    → Reaches n text ws rest → Spells (n + length ws) rest vs end → Spells n text (ws ++ vs) end
spells_wishes n text ws rest end vs a b = record {
  requests = a.requests ++ b.requests;
  wish = joined a.requests b.requests ws vs a.wish b.wish;
  spells = spells_after closes_behind n text a.requests rest end b.requests a.reaches
      (subst (λ (k : ℕ). SpellsFrom closes_behind k rest b.requests end) (numbered n a.requests ws a.wish) b.spells);
}

begins_wishes : (n : ℕ) (text : List ℕ) (ws : List Wish) (rest : List ℕ) (vs : List Wish)
    → Reaches n text ws rest → Begins (n + length ws) rest vs → Begins n text (ws ++ vs)
begins_wishes n text ws rest vs a b = record {
  requests = a.requests ++ b.requests;
  wish = joined a.requests b.requests ws vs a.wish b.wish;
  begins = begins_after closes_behind n text a.requests rest b.requests a.reaches
      (subst (λ (k : ℕ). BeginsFrom closes_behind k rest b.requests) (numbered n a.requests ws a.wish) b.begins);
}

pub reaches_wishes : (n : ℕ) (text : List ℕ) (ws : List Wish) (rest : List ℕ) (vs : List Wish) (rest' : List ℕ)
    → Reaches n text ws rest → Reaches (n + length ws) rest vs rest' → Reaches n text (ws ++ vs) rest'
reaches_wishes n text ws rest vs rest' a b = record {
  requests = a.requests ++ b.requests;
  wish = joined a.requests b.requests ws vs a.wish b.wish;
  reaches = reaches_after closes_behind n text a.requests rest b.requests rest' a.reaches
      (subst (λ (k : ℕ). ReachesFrom closes_behind k rest b.requests rest') (numbered n a.requests ws a.wish)
      b.reaches);
}

-- ---- the same of what was judged

pub counted_wishes : (n : ℕ) (js : List JudgedWish) → n + length js ≡ n + length (wishes_of js)
counted_wishes n js = ap (λ k. n + k) (sym (length-map js (λ (j : JudgedWish). j.wish)))

pub wishes_of-append : (js ks : List JudgedWish) → wishes_of js ++ wishes_of ks ≡ wishes_of (js ++ ks)
wishes_of-append js ks = sym (map-append (λ (j : JudgedWish). j.wish) js ks)

pub spells_on : (n : ℕ) (text rest : List ℕ) (js ks : List JudgedWish) (end : End) → Reaches n text (wishes_of js) rest
    → Spells (n + length js) rest (wishes_of ks) end → Spells n text (wishes_of (js ++ ks)) end
spells_on n text rest js ks end reach spells =
    subst (λ (ws : List Wish). Spells n text ws end) (wishes_of-append js ks)
    (spells_wishes n text (wishes_of js) rest end (wishes_of ks) reach
    (subst (λ (k : ℕ). Spells k rest (wishes_of ks) end) (counted_wishes n js) spells))

pub begins_on : (n : ℕ) (text rest : List ℕ) (js ks : List JudgedWish) → Reaches n text (wishes_of js) rest
    → Begins (n + length js) rest (wishes_of ks) → Begins n text (wishes_of (js ++ ks))
begins_on n text rest js ks reach begins =
    subst (λ (ws : List Wish). Begins n text ws) (wishes_of-append js ks)
    (begins_wishes n text (wishes_of js) rest (wishes_of ks) reach
    (subst (λ (k : ℕ). Begins k rest (wishes_of ks)) (counted_wishes n js) begins))

pub reaches_on : (n : ℕ) (text rest rest' : List ℕ) (js ks : List JudgedWish) → Reaches n text (wishes_of js) rest
    → Reaches (n + length js) rest (wishes_of ks) rest' → Reaches n text (wishes_of (js ++ ks)) rest'
reaches_on n text rest rest' js ks reach reaches =
    subst (λ (ws : List Wish). Reaches n text ws rest') (wishes_of-append js ks)
    (reaches_wishes n text (wishes_of js) rest (wishes_of ks) rest' reach
    (subst (λ (k : ℕ). Reaches k rest (wishes_of ks) rest') (counted_wishes n js) reaches))

-- ---- bytes behind the text

pub Spells-more : (n : ℕ) (text more : List ℕ) (ws : List Wish) (end : End) → IsClosing end → Spells n text ws end
    → Spells n (text ++ more) ws end
Spells-more n text more ws end closing s = record {
  requests = s.requests;
  wish = s.wish;
  spells = spells_more closes_behind n text more s.requests end closing s.spells;
}

pub Begins-more : (n : ℕ) (text more : List ℕ) (ws : List Wish) → Begins n text ws → Begins n (text ++ more) ws
Begins-more n text more ws s =
    record { requests = s.requests; wish = s.wish; begins = begins_more closes_behind n text more s.requests s.begins }

pub Reaches-more : (n : ℕ) (text more : List ℕ) (ws : List Wish) (rest : List ℕ) → Reaches n text ws rest
    → Reaches n (text ++ more) ws (rest ++ more)
Reaches-more n text more ws rest s =
    record {
      requests = s.requests;
      wish = s.wish;
      reaches = reaches_more closes_behind n text more s.requests rest
          s.reaches;
    }

-- what a text spells is the first of what it spells
pub Spells-begins : (n : ℕ) (text : List ℕ) (ws : List Wish) (end : End) → Spells n text ws end → Begins n text ws
Spells-begins n text ws end s =
    record { requests = s.requests; wish = s.wish; begins = spells_begins closes_behind n text s.requests end s.spells }

-- what a text reaches is the first of what it spells
pub Reaches-begins : (n : ℕ) (text : List ℕ) (ws : List Wish) (rest : List ℕ) → Reaches n text ws rest
    → Begins n text ws
Reaches-begins n text ws rest s =
    record {
      requests = s.requests;
      wish = s.wish;
      begins = reaches_begins closes_behind n text s.requests rest
          s.reaches;
    }
