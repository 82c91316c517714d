-- What a wire shows of a turn over it.
use Rattle.std.proofs.Common.{◌≡◌, ◌∙◌, ℕ, List, [], ◌∷◌, ◌++◌, map, nat_lt, true, refl, sym, ap, subst, append_assoc, append-nil}
use Rattle.std.proofs.lemmas.Grind.{flat_map-append}
use Rattle.std.proofs.lemmas.List.{map-append}
use Rattle.rx_outside.specs.Talk.{talk}
use Rattle.rx_serve.specs.Lines.{Cut, cut, is_within}
use Rattle.rx_serve.specs.Served.{as_line}
use Rattle.rx_serve.proofs.Cuts.{cut_joined, cut_one, cut_part}
use Rattle.rx_sync.specs.Remote.{Heard, no_wire, no_line, line}
use Rattle.rx_engine.specs.Callings.{Hears, WireStanding}
use Rattle.rx_engine.specs.Dialled.{IsHeardIn, IsWithoutLine, as_lines}

-- lines were heard over it, after texts that were sent
pub record HasHeard (texts : List (List ℕ)) (heard : List Heard) (w : WireStanding) : Type 0 where
  pub lines : List (List ℕ)
  pub heard_so : heard ≡ map (λ l. line l) lines
  pub given : cut w.given ≡ record { whole = lines; rest = [] }
  pub sent : w.sent ≡ as_lines texts

-- none was heard yet
pub none_heard : (w : WireStanding) → w.given ≡ [] → w.sent ≡ [] → HasHeard [] [] w
none_heard w given sent = record {
  lines = [];
  heard_so = refl;
  given = ap cut given;
  sent = sent;
}

lines_then : (texts : List (List ℕ)) (text : List ℕ)
    → as_lines texts ++ as_line text ≡ as_lines (texts ++ text ∷ [])
lines_then texts text =
    ap (λ (bs : List ℕ). as_lines texts ++ bs) (sym (append-nil (as_line text)))
    ∙ sym (flat_map-append as_line texts (text ∷ []))

module _ (texts : List (List ℕ)) (heard : List Heard) (old new : WireStanding) (text : List ℕ)
    (so : HasHeard texts heard old) where
  -- what was given then is cut so
  behind : (more : List ℕ) → new.given ≡ old.given ++ more
      → cut new.given ≡ record { whole = so.lines ++ (cut more).whole; rest = (cut more).rest }
  behind more is =
      ap cut is
      ∙ cut_joined old.given more (ap (λ (c : Cut). c.rest) so.given)
      ∙ ap (λ (c : Cut). record {
        whole = c.whole ++ (cut more).whole;
        rest = (cut more).rest;
      }) so.given

  -- one more line was heard
  pub heard_line : (l : List ℕ) → Hears text (line l) old new
      → HasHeard (texts ++ text ∷ []) (heard ++ line l ∷ []) new
  heard_line l is = record {
    lines = so.lines ++ l ∷ [];
    heard_so = ap (λ (hs : List Heard). hs ++ line l ∷ []) so.heard_so
        ∙ sym (map-append (λ l. line l) so.lines (l ∷ []));
    given = behind (as_line l) is.1
        ∙ ap (λ (c : Cut). record { whole = so.lines ++ c.whole; rest = c.rest }) (cut_one l is.0);
    sent = is.2 ∙ ap (λ (bs : List ℕ). bs ++ as_line text) so.sent ∙ lines_then texts text;
  }

  -- and so the talk shows them
  pub line_shown : (l : List ℕ) → Hears text (line l) old new
      → IsHeardIn (texts ++ text ∷ []) (heard ++ line l ∷ [])
      (talk new.given new.left new.sent new.faults)
  line_shown l is =
      let then = heard_line l is in
      record {
        last = [];
        lines = then.heard_so
            ∙ sym (append-nil (map (λ l. line l) then.lines))
            ∙ ap (λ (c : Cut). map (λ l. line l) c.whole ++ []) (sym then.given);
        ends = (ap (λ (c : Cut). c.rest) then.given, then.sent);
      }

  -- what came at last and is no line
  part_lines : (part : List ℕ) → is_within part ≡ true → new.given ≡ old.given ++ part
      → (h : Heard) → heard ++ h ∷ [] ≡ map (λ l. line l) (cut new.given).whole ++ h ∷ []
  part_lines part within is h =
      ap (λ (hs : List Heard). hs ++ h ∷ []) (so.heard_so
      ∙ ap (λ (ls : List (List ℕ)). map (λ l. line l) ls) (sym (append-nil so.lines)
      ∙ ap (λ (c : Cut). so.lines ++ c.whole) (sym (cut_part part within))
      ∙ sym (ap (λ (c : Cut). c.whole) (behind part is))))

  part_rest : (part : List ℕ) → is_within part ≡ true → new.given ≡ old.given ++ part
      → (cut new.given).rest ≡ part
  part_rest part within is =
      ap (λ (c : Cut). c.rest) (behind part is) ∙ ap (λ (c : Cut). c.rest) (cut_part part within)

  -- the wire failed: a front of the last text was sent
  pub wire_shown : (failed : nat_lt 0 new.faults ≡ true) → Hears text no_wire old new
      → IsHeardIn (texts ++ text ∷ []) (heard ++ no_wire ∷ [])
      (talk new.given new.left new.sent new.faults)
  wire_shown failed is =
      let part = is.0 in
      let front = is.1 in
      record {
        last = no_wire ∷ [];
        lines = part_lines part.0 part.1 part.2 no_wire;
        ends = (
          failed,
          (
            front.1,
            sym (lines_then texts text)
                ∙ ap (λ (bs : List ℕ). as_lines texts ++ bs) front.2
                ∙ sym (append_assoc (as_lines texts) front.0 front.1)
                ∙ ap (λ (bs : List ℕ). (bs ++ front.0) ++ front.1) (sym so.sent)
                ∙ ap (λ (bs : List ℕ). bs ++ front.1) (sym front.3),
          ),
        );
      }

  -- the master ended or sent too much before a line did
  pub no_line_shown : Hears text no_line old new
      → IsHeardIn (texts ++ text ∷ []) (heard ++ no_line ∷ [])
      (talk new.given new.left new.sent new.faults)
  no_line_shown is =
      let part = is.0 in
      record {
        last = no_line ∷ [];
        lines = part_lines part.0 part.1 part.2 no_line;
        ends = (
          subst (λ (rest : List ℕ). IsWithoutLine rest new.left)
              (sym (part_rest part.0 part.1 part.2)) part.3,
          is.1 ∙ ap (λ (bs : List ℕ). bs ++ as_line text) so.sent ∙ lines_then texts text,
        );
      }

-- nothing more was heard
pub all_shown : (texts : List (List ℕ)) (heard : List Heard) (w : WireStanding)
    → HasHeard texts heard w → IsHeardIn texts heard (talk w.given w.left w.sent w.faults)
all_shown texts heard w so = record {
  last = [];
  lines = so.heard_so ∙ sym (append-nil (map (λ l. line l) so.lines))
      ∙ ap (λ (c : Cut). map (λ l. line l) c.whole ++ []) (sym so.given);
  ends = (ap (λ (c : Cut). c.rest) so.given, so.sent);
}
