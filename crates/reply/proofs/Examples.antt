-- The definition computed inside the checker: what is written for the bench table's file, for an empty file, for one that is cut short, and for every input that is too
-- long.
-- The `unfolding` line names every definition on the way, as in crates/machine/proofs/Rows.antt.
use Prim.Native.Nat.{ℕ, ◌<◌}
use mathlib.Core.Path.{◌≡◌, refl, sym}
use mathlib.Core.List.{List, [], ◌∷◌, ◌++◌}
use lib.ListN.{length}
use Rattle.frames.proofs.Chains.{pick_first, below-yes}
use Rattle.bitset.specs.Sets.{keep}
use Rattle.frames.specs.Logic.{below, at_most, equal, pick, either, both, no, one_of, all, any, rising_from, same, rows}
use Rattle.frames.specs.Layout.{byte, u16, u32, length_at, kind_at, next_at, fixed_size, asserts, supposes, lists_symbols, is_statement, class_at, scope_end_at, hyp_count, pair_count, listed_count, lists_from, pairs_from, listed_from, rest_from, rest_size, rest_at, hyps_at, pair_at, pairs_at, symbol_count, symbols_from, symbols_at, typecode_at, variable_at}
use Rattle.frames.specs.Table.{unknown_kind, bad_rest, no_symbols, cut_short, off_layout, bad_record, too_many, name_byte, label_byte, named, used, bad_symbol, bad_label, class_of, constant, variable, within, active, defined, variables, bad_numbers, bad_reference, float_of, float_below, has_float, symbol_given, all_given, lacks_float, second_float, equal_members, bad_assertion, bad_frame, no_proof}
use Rattle.frames.specs.Verdict.{nothing, unless, fault_at, after, refusal, end_verdict, at_end, decided, walk, outcome, verdict, index, laid}
use Rattle.frames.specs.Database.{symbol_at, statement_at, decode, database}
use Rattle.frames.specs.Facts.{symbol_of, statement_of, typecode, floated}
use Rattle.book.specs.Book.{replaced, substituted, under}
use Rattle.machine.specs.Chain.{unless as unless·Chain, bind}
use Rattle.machine.specs.Answer.{refusal_number, number, place, steps}
use Rattle.machine.specs.Ground.{is_variable, is_float, is_essential, expression, expression_of, among, add_if, mandatory, mandatory_pairs, frame_pairs, frame_of, ground}
use Rattle.machine.specs.Reading.{divider, bad_byte, letter, prepend, cut, parts, mark_and_label, local_first, split_colon, split}
use Rattle.machine.specs.Memory.{limited, cost, push, add_place, save_top, place_of, is_some, add_local, give_local}
use Rattle.machine.specs.Prepare.{numbered, numbered_by, ready, spend, leaf_of, prepare_hypothesis, first_from, bears, sought, bears_own, sought_own, or_else, sought_label, prepare_statement, prepare_found, add_ready, prepare_roster, preload, at_place, ready_with, prepare_place, prepare_local, prepare_named, ambiguous, prepare_normal}
use Rattle.machine.specs.Apply.{label_of, names, with_mark, marks, check_marks, is_marked, marked, unmarked_first, unmarked, seat, arranged, binds, bound, check_hyp, check_hyps, is_pair, disjoint, variables_of, disjoint_from, keeps, forest, conclusion, conclude, apply_assertion, assign_entries, run_prepared, run_ready}
use Rattle.machine.specs.Run.{settle, go_on, step_at, on_letter, after_step, on_parts, on_normal, on_token, end_token, on_plain, by_mode, on_byte, on_bytes, is_claim, only_entry, accept, unfinished, finish, on_end, all_numbered, members, first_variables, fresh, begin, admitted, start, run}
use Rattle.machine.specs.Bench.{ended, answer_good, judged, answer}
use Rattle.machine.specs.Files.{bytes, two, four, forever, each, each_pair, record_of, constant as constant·Files, variable as variable·Files, float, essential, assertion, proof}
use Rattle.machine.specs.BenchTable.{symbols, var_p, var_q, implies, wff, proves, bench_file, first1, first2}
use Rattle.packed.specs.Pool.{joined}
use Rattle.verdict_text.specs.Text.{digits_of}
use Rattle.walk.specs.Walk.{provable_from, provable}
use Rattle.reply.specs.Output.{greatest, line_for, proof_line, proof_lines, checked_text, text_of, output_of}

-- with the first proof shown for each claim: document 01's whole output
pub table-written : output_of (bench_file first1 first2) ≡ bytes "checked 2" ++ (10 ∷ (bytes "th1 0 13 5" ++ (10 ∷ (bytes "th2 0 14 5" ++ (10 ∷ [])))))
unfolding below at_most equal pick either both no one_of all any rising_from same rows byte u16 u32 length_at kind_at next_at fixed_size asserts supposes lists_symbols is_statement class_at scope_end_at hyp_count pair_count listed_count lists_from pairs_from listed_from rest_from rest_size rest_at hyps_at pair_at pairs_at symbol_count symbols_from symbols_at typecode_at variable_at unknown_kind bad_rest no_symbols cut_short off_layout bad_record too_many name_byte label_byte named used bad_symbol bad_label class_of constant variable within active defined variables bad_numbers bad_reference float_of float_below has_float symbol_given all_given lacks_float second_float equal_members bad_assertion bad_frame no_proof nothing unless fault_at after refusal end_verdict at_end decided walk outcome verdict index laid symbol_at statement_at decode database symbol_of statement_of typecode floated replaced substituted under unless·Chain bind refusal_number number place steps is_variable is_float is_essential expression expression_of among add_if mandatory mandatory_pairs frame_pairs frame_of ground divider bad_byte letter prepend cut parts mark_and_label local_first split_colon split limited cost push add_place save_top place_of is_some add_local give_local numbered numbered_by ready spend leaf_of prepare_hypothesis first_from bears sought bears_own sought_own or_else sought_label prepare_statement prepare_found add_ready prepare_roster preload at_place ready_with prepare_place prepare_local prepare_named ambiguous prepare_normal label_of names with_mark marks check_marks is_marked marked unmarked_first unmarked seat arranged binds bound check_hyp check_hyps is_pair disjoint variables_of disjoint_from keeps forest conclusion conclude apply_assertion assign_entries run_prepared run_ready settle go_on step_at on_letter after_step on_parts on_normal on_token end_token on_plain by_mode on_byte on_bytes is_claim only_entry accept unfinished finish on_end all_numbered members first_variables fresh begin admitted start run ended answer_good judged answer bytes two four forever each each_pair record_of constant·Files variable·Files float essential assertion proof symbols var_p var_q implies wff proves bench_file first1 first2 keep joined digits_of provable_from provable greatest line_for proof_line proof_lines checked_text text_of output_of
table-written = refl

-- no records
pub empty-written : output_of [] ≡ bytes "checked 0" ++ (10 ∷ [])
unfolding below at_most equal pick either both no one_of all any rising_from same rows byte u16 u32 length_at kind_at next_at fixed_size asserts supposes lists_symbols is_statement class_at scope_end_at hyp_count pair_count listed_count lists_from pairs_from listed_from rest_from rest_size rest_at hyps_at pair_at pairs_at symbol_count symbols_from symbols_at typecode_at variable_at unknown_kind bad_rest no_symbols cut_short off_layout bad_record too_many name_byte label_byte named used bad_symbol bad_label class_of constant variable within active defined variables bad_numbers bad_reference float_of float_below has_float symbol_given all_given lacks_float second_float equal_members bad_assertion bad_frame no_proof nothing unless fault_at after refusal end_verdict at_end decided walk outcome verdict index laid symbol_at statement_at decode database symbol_of statement_of typecode floated replaced substituted under unless·Chain bind refusal_number number place steps is_variable is_float is_essential expression expression_of among add_if mandatory mandatory_pairs frame_pairs frame_of ground divider bad_byte letter prepend cut parts mark_and_label local_first split_colon split limited cost push add_place save_top place_of is_some add_local give_local numbered numbered_by ready spend leaf_of prepare_hypothesis first_from bears sought bears_own sought_own or_else sought_label prepare_statement prepare_found add_ready prepare_roster preload at_place ready_with prepare_place prepare_local prepare_named ambiguous prepare_normal label_of names with_mark marks check_marks is_marked marked unmarked_first unmarked seat arranged binds bound check_hyp check_hyps is_pair disjoint variables_of disjoint_from keeps forest conclusion conclude apply_assertion assign_entries run_prepared run_ready settle go_on step_at on_letter after_step on_parts on_normal on_token end_token on_plain by_mode on_byte on_bytes is_claim only_entry accept unfinished finish on_end all_numbered members first_variables fresh begin admitted start run ended answer_good judged answer bytes two four forever each each_pair record_of constant·Files variable·Files float essential assertion proof symbols var_p var_q implies wff proves bench_file first1 first2 keep joined digits_of provable_from provable greatest line_for proof_line proof_lines checked_text text_of output_of
empty-written = refl

-- a record that is cut short after two of its bytes
pub cut-written : output_of (5 ∷ 0 ∷ []) ≡ bytes "refused 1 0" ++ (10 ∷ [])
unfolding below at_most equal pick either both no one_of all any rising_from same rows byte u16 u32 length_at kind_at next_at fixed_size asserts supposes lists_symbols is_statement class_at scope_end_at hyp_count pair_count listed_count lists_from pairs_from listed_from rest_from rest_size rest_at hyps_at pair_at pairs_at symbol_count symbols_from symbols_at typecode_at variable_at unknown_kind bad_rest no_symbols cut_short off_layout bad_record too_many name_byte label_byte named used bad_symbol bad_label class_of constant variable within active defined variables bad_numbers bad_reference float_of float_below has_float symbol_given all_given lacks_float second_float equal_members bad_assertion bad_frame no_proof nothing unless fault_at after refusal end_verdict at_end decided walk outcome verdict index laid symbol_at statement_at decode database symbol_of statement_of typecode floated replaced substituted under unless·Chain bind refusal_number number place steps is_variable is_float is_essential expression expression_of among add_if mandatory mandatory_pairs frame_pairs frame_of ground divider bad_byte letter prepend cut parts mark_and_label local_first split_colon split limited cost push add_place save_top place_of is_some add_local give_local numbered numbered_by ready spend leaf_of prepare_hypothesis first_from bears sought bears_own sought_own or_else sought_label prepare_statement prepare_found add_ready prepare_roster preload at_place ready_with prepare_place prepare_local prepare_named ambiguous prepare_normal label_of names with_mark marks check_marks is_marked marked unmarked_first unmarked seat arranged binds bound check_hyp check_hyps is_pair disjoint variables_of disjoint_from keeps forest conclusion conclude apply_assertion assign_entries run_prepared run_ready settle go_on step_at on_letter after_step on_parts on_normal on_token end_token on_plain by_mode on_byte on_bytes is_claim only_entry accept unfinished finish on_end all_numbered members first_variables fresh begin admitted start run ended answer_good judged answer bytes two four forever each each_pair record_of constant·Files variable·Files float essential assertion proof symbols var_p var_q implies wff proves bench_file first1 first2 keep joined digits_of provable_from provable greatest line_for proof_line proof_lines checked_text text_of output_of
cut-written = refl

pub long-written : (input : List ℕ) → 65536 < length input → output_of input ≡ bytes "refused 2 0" ++ (10 ∷ [])
unfolding output_of digits_of bytes
long-written input long = sym (pick_first _ (below-yes long) refl)
