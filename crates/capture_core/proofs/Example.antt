-- The small capture.
use Rattle.std.proofs.Common.{◌≡◌, List, [], ◌∷◌, refl, sym, subst, arith, Some}
use Rattle.std.specs.Prelude.{codes}
use Rattle.std.proofs.lemmas.List.Elements.{All-cons, All-nil}
use Rattle.cap_base.specs.Carried.{IsFitInterface, IsFitPacket}
use Rattle.cap_base.specs.Legal.{Legal}
use Rattle.cap_base.specs.Laws.{IsWriters}
use Rattle.cap_base.proofs.Legals.{legal_none, legal_push}
use Rattle.cap_base.specs.declared.limits.Limits.{Limits}
use Rattle.cap_base.specs.declared.endings.How.TheVariants.{Clean}
use Rattle.cap_base.specs.declared.entries.Item.TheVariants as I
use Rattle.cap_base.specs.declared.entries.Taken.TheVariants as T
use Rattle.cap_base.specs.declared.entries.Verdict.TheVariants as V
use Rattle.cap_base.specs.declared.settings.Settings.{Settings}
use Rattle.cap_base.specs.declared.entries.Entry.{Entry}
use Rattle.cap_base.specs.declared.entries.Entry.TheVariants as E
use Rattle.std.specs.Fmt.{digits}
use Rattle.file_names.specs.Dates.{calendar_day, utc_digits}
use Rattle.file_names.specs.Dates.{digits as date_digits}
use Rattle.file_names.specs.Texts.{ring_name, split_at}
use Rattle.pcapng_blocks.specs.Spelling.{spell, block_text, u16, u32, u64, option, padded_bytes, notes_text, end_mark, timestamp, section_body, interface_options, interface_body, packet_body, statistics_body, statistics_counts}
use Rattle.pcapng_blocks.specs.Times.{statistics_time}
use Rattle.ring_files.specs.KeptNames.{leaving}
use Rattle.stop_conditions.specs.Conditions.{after_packet, at_moment}
use Rattle.capture_desk.specs.Due.{next_after, due}
use Rattle.capture_report.specs.Report.{files_line, interface_line, report_lines}
use Rattle.capture_desk.specs.Acts.{start_file, take_acts, tail, closing, tally_piece, piece}
use Rattle.capture_desk.specs.Files.{text}
use Rattle.capture_desk.specs.Past.{past}
use Rattle.capture_desk.specs.Acts.{acts}
use Rattle.capture_desk.specs.Examples.{a_packet_a_file, a_thousand_bytes_a_file, three_packets}
use Rattle.capture_desk.proofs.Worked.{three_are_orderly}
use Rattle.capture_desk.specs.Orderly.{IsOrderly, IsOrderlySoFar}
use Rattle.capture_desk.specs.Cuts.{said_acts, IsDoneFor}
use Rattle.capture_core.specs.Writers.{writers_past, EndsBehindDone}
use Rattle.capture_core.specs.Headline.{Headline}
use Rattle.capture_core.specs.Example.{an_interface, a_packet, settings, one_written, a_history, what_was_done, two_large_packets, three_files, sizes, names_of}
use Rattle.capture_core.proofs.Headline.{headline}

fit_interface : IsFitInterface an_interface
fit_interface = record { name = omega arith; notes = record { each = refl; few = omega arith } }

fit_packet : IsFitPacket a_packet
fit_packet = record { body = omega arith; notes = record { each = refl; few = omega arith } }

abbrev limits : Limits
limits = settings.limits

legal : Legal settings.limits 1 a_history
legal = legal_push limits 1 _ 1 (E.Tally 8 (one_written ∷ [])) (legal_push limits 1 _ 1 (E.Tally 8 (one_written ∷ [])) (legal_push limits 1 _ 1 (E.Take 8 T.Done) (legal_push limits 1 _ 1 (E.Take 7 (T.Item (I.Ended 0 Clean)))
    (legal_push limits 1 _ 1 (E.Take 6 (T.Item (I.Packet a_packet))) (legal_push limits 1 _ 1 (E.Take 5 (T.Item (I.Iface 0 an_interface))) (legal_push limits 1 _ 0 (E.End 0 Clean)
    (legal_push limits 1 _ 0 (E.Offer 0 a_packet V.Accepted) (legal_push limits 1 [] 0 (E.Join 0 an_interface (Some 0)) (legal_none limits 1) ((refl, omega arith), fit_interface) refl)
    ((refl, omega arith), fit_packet) refl) (refl, omega arith) tt) refl refl) refl refl) refl refl) refl refl) refl refl) refl refl

orderly : IsOrderly settings (5 ∷ (6 ∷ (7 ∷ (8 ∷ [])))) (writers_past 1 a_history)
unfolding due next_after after_packet at_moment
orderly = record { each = ((((((tt, refl), refl), refl), refl), (tt, refl)), (tt, refl)); over = refl; clock = refl }

ends : EndsBehindDone 1 a_history
ends = record {
  before = (0, E.Join 0 an_interface (Some 0)) ∷ (0, E.Offer 0 a_packet V.Accepted) ∷ (0, E.End 0 Clean) ∷ (1, E.Take 5 (T.Item (I.Iface 0 an_interface))) ∷ (1, E.Take 6 (T.Item (I.Packet a_packet))) ∷ (1, E.Take 7 (T.Item (I.Ended 0 Clean))) ∷ [];
  now = 8;
  behind = (1, E.Tally 8 (one_written ∷ [])) ∷ (1, E.Tally 8 (one_written ∷ [])) ∷ [];
  parts = refl;
  writers = All-cons IsWriters (1, E.Tally 8 (one_written ∷ [])) ((1, E.Tally 8 (one_written ∷ [])) ∷ []) tt (All-cons IsWriters (1, E.Tally 8 (one_written ∷ [])) [] tt (All-nil IsWriters));
}

did : IsDoneFor settings (writers_past 1 a_history) what_was_done
unfolding due next_after after_packet at_moment start_file take_acts tail closing report_lines tally_piece piece said_acts
did = record { heard_bytes = 0; place = record { whole = []; rest = []; part = [] }; within = λ e. absurd cc; did = refl }

pub example : Headline settings (5 ∷ (6 ∷ (7 ∷ (8 ∷ [])))) a_history what_was_done
example = headline settings (5 ∷ (6 ∷ (7 ∷ (8 ∷ [])))) a_history what_was_done (record { legal = legal; orderly = orderly; done_comes = ends; did = did })

-- ---- full files

pub large_are_orderly : IsOrderlySoFar a_thousand_bytes_a_file (past two_large_packets)
unfolding due next_after after_packet at_moment text spell block_text u16 u32 u64 option padded_bytes notes_text end_mark timestamp section_body interface_options interface_body packet_body
large_are_orderly = (((((((((tt, refl), refl), (tt, refl)), refl), (tt, refl)), refl), refl), (tt, refl)), (tt, refl))

pub large_names : names_of three_files ≡ codes "o_00001_19700101000000" ∷ (codes "o_00002_19700101000000" ∷ (codes "o_00003_19700101000000" ∷ []))
unfolding acts piece take_acts tally_piece start_file tail closing report_lines leaving due next_after after_packet at_moment statistics_time text spell block_text u16 u32 u64 option padded_bytes notes_text end_mark timestamp section_body interface_options interface_body packet_body statistics_body statistics_counts interface_line files_line digits ring_name split_at utc_digits calendar_day date_digits
large_names = refl

pub large_sizes : sizes three_files ≡ 1064 ∷ (1064 ∷ (132 ∷ []))
unfolding acts piece take_acts tally_piece start_file tail closing report_lines leaving due next_after after_packet at_moment statistics_time text spell block_text u16 u32 u64 option padded_bytes notes_text end_mark timestamp section_body interface_options interface_body packet_body statistics_body statistics_counts interface_line files_line digits
large_sizes = refl

-- ---- three packets

pub three_follow : (s : Settings) (es : List Entry) → s ≡ a_packet_a_file → es ≡ three_packets → IsOrderlySoFar s (past es)
three_follow s es e f = subst (λ (z : Settings). IsOrderlySoFar z (past es)) (sym e) (subst (λ (z : List Entry). IsOrderlySoFar a_packet_a_file (past z)) (sym f) three_are_orderly.each)
