-- The four disk calls with which staged records are sealed, one after another.
use Rattle.std.proofs.Common.{◌≡◌, ◌⊎◌, inl, inr, ℕ, ◌+◌, List, [], ◌∷◌, ◌++◌, length, get_or, drop, sym, ◌∙◌, ap, subst, arith, append_assoc, length-append}
use Rattle.std.proofs.lemmas.Bool.{cases_eq}
use Rattle.sb_outside.specs.Held.{Held, IsImage, Moves, MayMove, overwritten, touched, at_rest}
use Rattle.sb_journal.specs.Text.{File, framed, framed_all, records, file_text, with_payloads, IsWithin}
use Rattle.sb_journal.specs.Framing.{Whole, framing}
use Rattle.sb_journal.specs.Crashes.{Rests, Stages, IsShutFile, IsTornGroup, StandsGated}
use Rattle.sb_journal.specs.Moments.{EachMoment}
use Rattle.sb_journal.proofs.Moments.{started, goes_on, stays, may_go_on}
use Rattle.sb_journal.proofs.Heads.{reads_closed, file_text-group}
use Rattle.sb_journal.proofs.Images.{rest_image, one_place, written_at, front_touched}
use Rattle.sb_journal.proofs.Staging.{shut_text, shut_of, length-shut, stages_keep, stages_read, seen_more, rests_stage}

-- what is read there
pub rests_read : (h : Held) (end next : ℕ) (f : File) → Rests h end next f → framing h.seen ≡ Whole f
rests_read h end next f rests = stages_read h end next f [] (rests_stage h end next f rests)

-- the place behind the last record's gate
pub behind_place : (f : File) (p : List ℕ) (ps : List (List ℕ)) (end next m : ℕ) (w frames : List ℕ) → end ≡ length (file_text f) → next ≡ f.first + length f.payloads → length w ≡ m → w ++ frames ≡ framed_all next (p ∷ ps) ++ 0 ∷ []
    → end + m + length frames ≡ length (file_text (with_payloads f (p ∷ ps)))
behind_place f p ps end next m w frames end_is next_is long is =
    let number = f.first + length f.payloads in
    omega (
      arith,
      end_is,
      long,
      length-append w frames,
      ap length (is ∙ ap (λ n. framed_all n (p ∷ ps) ++ 0 ∷ []) next_is),
      length-append (framed number p ++ records (number + 1) ps) (0 ∷ []),
      length-append (framed number p) (records (number + 1) ps),
      ap length (file_text-group f p ps []),
      length-append (file_text (with_payloads f (p ∷ ps))) [],
      length-append (file_text f) (1 ∷ (framed number p ++ (records (number + 1) ps ++ []))),
      length-append (framed number p) (records (number + 1) ps ++ []),
      length-append (records (number + 1) ps) [],
    )

-- the bytes stand for the file, with all of the payloads more or none of them
abbrev pub IsBeforeOrAfter : File → List (List ℕ) → List ℕ → Type 0
IsBeforeOrAfter file payloads bytes = (framing bytes ≡ Whole file) ⊎ (framing bytes ≡ Whole (with_payloads file payloads))

-- what a crash left is read as the file before or after
pub torn_read : (f : File) (ps : List (List ℕ)) (bytes : List ℕ) → IsTornGroup f ps bytes → IsBeforeOrAfter f ps bytes
torn_read f ps bytes t = torn_as ps t t.stands
  where
    torn_as : (ps : List (List ℕ)) → IsTornGroup f ps bytes → ((tail : List ℕ) × (bytes ≡ file_text f ++ 0 ∷ tail)) ⊎ StandsGated f ps bytes → IsBeforeOrAfter f ps bytes
    torn_as ps t (inl shut) = inl (ap framing shut.1 ∙ reads_closed f 0 shut.0 t.within (omega arith))
    torn_as [] t (inr whole) = absurd whole
    torn_as (p ∷ ps) t (inr whole) =
        let number = f.first + length f.payloads in
        let records_are = framed number p ++ (records (number + 1) ps ++ 0 ∷ whole.1) in
        elim (cases_eq whole.0 1) [
          | inl opened ↦ inr (ap framing (whole.2 ∙ ap (λ g. file_text f ++ g ∷ records_are) opened ∙ sym (file_text-group f p ps (0 ∷ whole.1))) ∙ reads_closed (with_payloads f (p ∷ ps)) 0 whole.1 t.within_after (omega arith))
          | inr shut ↦ inl (ap framing whole.2 ∙ reads_closed f whole.0 records_are t.within shut)
        ]

-- what a sealing begins with: some of the records' bytes are written, and these are the others with the next gate
pub record Begins (file : File) (p : List ℕ) (ps : List (List ℕ)) (end next : ℕ) (w frames : List ℕ) (h0 : Held) : Type 0 where
  pub stages : Stages h0 end next file w
  pub all_is : w ++ frames ≡ framed_all next (p ∷ ps) ++ 0 ∷ []
  pub within_after : IsWithin (with_payloads file (p ∷ ps))

module _ (file : File) (p : List ℕ) (ps : List (List ℕ)) (end next : ℕ) (w frames : List ℕ) (p0 : List Held) (h0 : Held) (b : Begins file p ps end next w frames h0) where
  abbrev P : List ℕ → Type 0
  P = IsTornGroup file (p ∷ ps)

  abbrev Text : List ℕ
  Text = file_text file

  abbrev All : List ℕ
  All = w ++ frames

  abbrev Rest : List ℕ
  Rest = drop (length All) b.stages.tail

  abbrev Staged : List ℕ
  Staged = Text ++ 0 ∷ (All ++ Rest)

  abbrev number : ℕ
  number = file.first + length file.payloads

  all_records : All ++ Rest ≡ framed number p ++ (records (number + 1) ps ++ 0 ∷ Rest)
  all_records =
      ap (λ (l : List ℕ). l ++ Rest) (b.all_is ∙ ap (λ n. framed_all n (p ∷ ps) ++ 0 ∷ []) b.stages.next_is)
      ∙ append_assoc (framed number p ++ records (number + 1) ps) (0 ∷ []) Rest
      ∙ append_assoc (framed number p) (records (number + 1) ps) (0 ∷ Rest)

  -- the next file's text
  opened_is : Text ++ 1 ∷ (All ++ Rest) ≡ file_text (with_payloads file (p ∷ ps)) ++ 0 ∷ Rest
  opened_is = ap (λ (l : List ℕ). Text ++ 1 ∷ l) all_records ∙ sym (file_text-group file p ps (0 ∷ Rest))

  shut : (image : List ℕ) → IsShutFile file image → P image
  shut image is = record { within = b.stages.within; within_after = b.within_after; stands = inl is }

  gated : (gate : ℕ) (image : List ℕ) → image ≡ Text ++ gate ∷ (All ++ Rest) → P image
  gated gate image is = record {
    within = b.stages.within;
    within_after = b.within_after;
    stands = inr (gate, Rest, is ∙ ap (λ (l : List ℕ). Text ++ gate ∷ l) all_records);
  }

  -- the closed gate stands while the records are written behind it
  behind : (n : ℕ) (seen image : List ℕ) → IsImage (touched h0 (end + 1 + length w) n seen) image → P image
  behind n seen image left =
      shut image (shut_of file _ image (front_touched (shut_text file) h0 (end + 1 + length w) n seen (stages_keep h0 end next file w b.stages) (let end_is = b.stages.end_is in omega (arith, end_is, length-shut file))) left)

  at_start : EachMoment p0 p0 h0 P
  at_start = started p0 h0 P (λ image left. shut image (shut_of file h0 image (stages_keep h0 end next file w b.stages) left))

  pub failed_1 : (p1 : List Held) (h1 : Held) (n : ℕ) → MayMove p0 h0 p1 h1 (touched h0 (end + 1 + length w) n) → EachMoment p0 p1 h1 P
  failed_1 p1 h1 n moved = may_go_on p0 p0 p1 h0 h1 (touched h0 (end + 1 + length w) n) P at_start moved (behind n)

  module _ (p1 : List Held) (h1 : Held) (wrote : Moves p0 h0 p1 h1 (touched h0 (end + 1 + length w) (length frames) (overwritten h0.seen (end + 1 + length w) frames))) where
    done_1 : EachMoment p0 p1 h1 P
    done_1 = goes_on p0 p0 p1 h0 h1 _ P at_start wrote (behind _ _)

    seen_1 : h1.seen ≡ Staged
    seen_1 = ap (λ h. h.seen) wrote.now_is ∙ seen_more h0 end next file w frames b.stages

    pub failed_2 : (p2 : List Held) (h2 : Held) → p2 ≡ p1 → h2 ≡ h1 → EachMoment p0 p2 h2 P
    failed_2 p2 h2 same_past same_now = stays p0 p1 p2 h1 h2 P done_1 same_past same_now

    module _ (p2 : List Held) (h2 : Held) (synced : Moves p1 h1 p2 h2 (at_rest h1.seen)) where
      at_2 : h2 ≡ at_rest Staged
      at_2 = synced.now_is ∙ ap at_rest seen_1

      done_2 : EachMoment p0 p2 h2 P
      done_2 = goes_on p0 p1 p2 h1 h2 _ P done_1 synced (λ image left. shut image (All ++ Rest, rest_image Staged image (subst (λ s. IsImage (at_rest s) image) seen_1 left)))

      -- all records count or none does, whatever stands at the first one's gate
      opening : (seen image : List ℕ) → IsImage (touched h2 end 1 seen) image → P image
      opening seen image left =
          let at : IsImage (touched (at_rest Staged) (length Text) 1 seen) image = subst (λ n. IsImage (touched (at_rest Staged) n 1 seen) image) b.stages.end_is (subst (λ h. IsImage (touched h end 1 seen) image) at_2 left) in
          gated (get_or image (length Text) 0) image (one_place Text (All ++ Rest) 0 seen image at)

      pub failed_3 : (p3 : List Held) (h3 : Held) → MayMove p2 h2 p3 h3 (touched h2 end 1) → EachMoment p0 p3 h3 P
      failed_3 p3 h3 moved = may_go_on p0 p2 p3 h2 h3 (touched h2 end 1) P done_2 moved opening

      module _ (p3 : List Held) (h3 : Held) (opened : Moves p2 h2 p3 h3 (touched h2 end 1 (overwritten h2.seen end (1 ∷ [])))) where
        done_3 : EachMoment p0 p3 h3 P
        done_3 = goes_on p0 p2 p3 h2 h3 _ P done_2 opened (opening _)

        pub failed_4 : (p4 : List Held) (h4 : Held) → p4 ≡ p3 → h4 ≡ h3 → EachMoment p0 p4 h4 P
        failed_4 p4 h4 same_past same_now = stays p0 p3 p4 h3 h4 P done_3 same_past same_now

        module _ (p4 : List Held) (h4 : Held) (kept : Moves p3 h3 p4 h4 (at_rest h3.seen)) where
          seen_3 : h3.seen ≡ Text ++ 1 ∷ (All ++ Rest)
          seen_3 =
              ap (λ h. h.seen) opened.now_is ∙ ap (λ h. overwritten h.seen end (1 ∷ [])) at_2
              ∙ written_at Text (All ++ Rest) 0 1 end b.stages.end_is

          pub done_4 : EachMoment p0 p4 h4 P
          done_4 = goes_on p0 p3 p4 h3 h4 _ P done_3 kept (λ image left. gated 1 image (rest_image (Text ++ 1 ∷ (All ++ Rest)) image (subst (λ s. IsImage (at_rest s) image) seen_3 left)))

          pub rests_4 : Rests h4 (end + length w + length frames) (next + length (p ∷ ps)) (with_payloads file (p ∷ ps))
          rests_4 = record {
            tail = Rest;
            held_is = kept.now_is ∙ ap at_rest (seen_3 ∙ opened_is);
            end_is = behind_place file p ps end next (length w) w frames b.stages.end_is b.stages.next_is (let e : length w ≡ length w = omega arith in e) b.all_is;
            next_is = let next_is = b.stages.next_is in omega (arith, next_is, length-append file.payloads (p ∷ ps));
            within = b.within_after;
          }
