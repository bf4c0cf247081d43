-- SPDX-License-Identifier: Apache-2.0 OR MIT
-- What is found, and where a text stops being the beginning of a query, by what reading comes to.
use Rattle.std.proofs.Common.{◌≡◌, inl, inr, ℕ, ◌≤◌, Bool, List, length, Option, Ok, Err, if◌then◌else◌, ap, sym, ◌∙◌}
use Rattle.std.proofs.Common.{subst}
use Rattle.std.proofs.lemmas.Bool.{le-ltb}
use Rattle.cr_base.specs.Search.{Tree, all_nodes, tree_of, IsSpelled}
use Rattle.cr_base.specs.declared.search.Node.{Node}
use Rattle.cr_search_parse.specs.Grammar.{symbols_of, IsQuery}
use Rattle.cr_search_parse.specs.Outcome.{Parses}
use Rattle.cr_search_parse.specs.Offsets.{most_bytes, IsOffset, Spells, IsBad}
use Rattle.cr_search_parse.specs.Reading.{start, runs_read, text_read}
use Rattle.cr_search_parse.specs.Runs.{Run, runs_of}
use Rattle.cr_search_parse.specs.Stopping.{Gives, StopsAt, Reads, IsFound}
use Rattle.cr_search_parse.specs.declared.parsing.ParseError.{ParseError}
use Rattle.cr_search_parse.specs.declared.parsing.ParseError.TheVariants as told
use Rattle.cr_search_parse.proofs.OffsetLaws.{stuck, short, one}
use Rattle.cr_search_parse.proofs.Sound.{found}
use Rattle.cr_search_parse.proofs.StopLaws.{gives-read, stops-read}
use Rattle.cr_search_parse.proofs.TreeLaws.{tree_of-all_nodes}

-- the query whose nodes these are
pub record Found (runs : List Run) (nodes : List Node) : Type 0 where
  pub tree : Option Tree
  pub spelled : nodes ≡ all_nodes tree
  pub query : IsQuery (symbols_of runs) tree

pub gives-found : (runs : List Run) (nodes : List Node) → Gives runs nodes → Found runs nodes
gives-found runs nodes given =
    let query = found (symbols_of runs) given.0 nodes given.1 given.2 in
    record { tree = query.0; spelled = query.1; query = query.2 }

spelled-tree : (runs : List Run) (nodes : List Node) (query : Found runs nodes) → tree_of nodes ≡ query.tree
spelled-tree runs nodes query = ap tree_of query.spelled ∙ tree_of-all_nodes query.tree

pub gives-spelled : (runs : List Run) (nodes : List Node) → Gives runs nodes → IsSpelled nodes
gives-spelled runs nodes given =
    let query = gives-found runs nodes given in ap all_nodes (spelled-tree runs nodes query) ∙ sym query.spelled

pub gives-spells : (text : List ℕ) (nodes : List Node) → length text ≤ most_bytes → Gives (runs_of text) nodes
    → Spells text (tree_of nodes)
gives-spells text nodes few given =
    let query = gives-found (runs_of text) nodes given in
    let same = sym (spelled-tree (runs_of text) nodes query) in
    (few, subst (λ (tree : Option Tree). IsQuery (symbols_of (runs_of text)) tree) same query.query)

pub gives-only : (runs : List Run) (nodes : List Node) (t : Option Tree) → Gives runs nodes
    → IsQuery (symbols_of runs) t
    → nodes ≡ all_nodes t
gives-only runs nodes t given is =
    let query =
    gives-found runs nodes given in query.spelled ∙ ap all_nodes (one (symbols_of runs) query.tree t query.query is)

pub stops-no_query : (runs : List Run) (offset : ℕ) → StopsAt runs offset → (t : Option Tree)
    → IsQuery (symbols_of runs) t → ⊥
stops-no_query runs offset (inl stop) = (stuck runs stop.before stop.state stop.more stop.leads stop.stuck).1
stops-no_query runs offset (inr stop) = (short runs stop.state stop.leads stop.short).1

pub stops-bad : (text : List ℕ) (offset : ℕ) → length text ≤ most_bytes → StopsAt (runs_of text) offset
    → IsBad text offset
stops-bad text offset few stop = inr (few, stops-no_query (runs_of text) offset stop, at stop)
  where
    at : StopsAt (runs_of text) offset → IsOffset (runs_of text) offset
    at (inl stop) =
        subst (IsOffset (runs_of text)) (sym stop.there)
        (stuck (runs_of text) stop.before stop.state stop.more stop.leads stop.stuck).0
    at (inr stop) =
        subst (IsOffset (runs_of text)) (sym stop.there) (short (runs_of text) stop.state stop.leads stop.short).0

-- ---- refusals

pub not-found : (text : List ℕ) (error : ParseError) (t : Option Tree) → Reads (Err error) text
    → IsQuery (symbols_of (runs_of text)) t → IsFound (Err error) (all_nodes t)
not-found text (told.BadQuery offset) t stop query = stops-no_query (runs_of text) offset stop t query
not-found text told.OutOfMemory t stop query = tt

pub told-bad : (text : List ℕ) (error : ParseError) (offset : ℕ) → length text ≤ most_bytes → Reads (Err error) text
    → error ≡ told.BadQuery offset → IsBad text offset
told-bad text (told.BadQuery there) offset few stop is =
    let same : there ≡ offset = cc in subst (IsBad text) same (stops-bad text there few stop)
told-bad text told.OutOfMemory offset few stop is = absurd cc

-- ---- as a function of the text

-- a text that isn't too long is read run by run
pub few-read : (text : List ℕ) → length text ≤ most_bytes → text_read text ≡ runs_read (runs_of text) 0 start
few-read text few = ap (λ (b : Bool). if b then Err most_bytes else runs_read (runs_of text) 0 start)
    (le-ltb most_bytes (length text) few)

pub gives-exact : (text : List ℕ) (nodes : List Node) → length text ≤ most_bytes → Gives (runs_of text) nodes
    → text_read text ≡ Ok nodes
gives-exact text nodes few given = few-read text few ∙ gives-read (runs_of text) nodes given

pub stops-exact : (text : List ℕ) (error : ParseError) → length text ≤ most_bytes → Reads (Err error) text
    → Parses (Err error) (text_read text)
stops-exact text (told.BadQuery offset) few stop = few-read text few ∙ stops-read (runs_of text) offset stop
stops-exact text told.OutOfMemory few stop = tt
