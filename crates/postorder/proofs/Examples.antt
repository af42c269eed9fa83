-- Long forms computed inside the checker, on the bytes of the files. The `unfolding` lines name every definition on the way;
-- tests/runs/make_long.py writes them.
use mathlib.Core.Path.{◌≡◌, refl}
use mathlib.Core.List.{map}
use Rattle.frames.specs.Logic.{below, at_most, equal, pick, either, both, no, one_of, all, any, rising_from, same, rows}
use Rattle.frames.specs.Layout.{byte, u16, u32, length_at, kind_at, next_at, fixed_size, asserts, supposes, lists_symbols, is_statement, class_at, scope_end_at, hyp_count, pair_count, listed_count, lists_from, pairs_from, listed_from, rest_from, rest_size, rest_at, hyps_at, pair_at, pairs_at, symbol_count, symbols_from, symbols_at, typecode_at, variable_at}
use Rattle.frames.specs.Table.{unknown_kind, bad_rest, no_symbols, cut_short, off_layout, bad_record, too_many, name_byte, label_byte, named, used, bad_symbol, bad_label, class_of, constant, variable, within, active, defined, variables, bad_numbers, bad_reference, float_of, float_below, has_float, symbol_given, all_given, lacks_float, second_float, equal_members, bad_assertion, bad_frame, no_proof}
use Rattle.frames.specs.Verdict.{nothing, unless, fault_at, after, refusal, end_verdict, at_end, decided, walk, outcome, verdict, index, laid}
use Rattle.frames.specs.Database.{symbol_at, statement_at, decode, database}
use Rattle.frames.specs.Facts.{symbol_of, statement_of, typecode, floated}
use Rattle.book.specs.Book.{replaced, substituted, under}
use Rattle.machine.specs.Chain.{unless as unless·Chain, bind}
use Rattle.machine.specs.Answer.{refusal_number, number, place, steps}
use Rattle.machine.specs.Ground.{is_variable, is_float, is_essential, expression, expression_of, among, add_if, mandatory, mandatory_pairs, frame_pairs, frame_of, ground}
use Rattle.machine.specs.Reading.{divider, bad_byte, letter, prepend, cut, parts, mark_and_label, local_first, split_colon, split}
use Rattle.machine.specs.Memory.{limited, cost, push, add_place, save_top, place_of, is_some, add_local, give_local}
use Rattle.machine.specs.Prepare.{numbered, numbered_by, ready, spend, leaf_of, prepare_hypothesis, first_from, bears, sought, bears_own, sought_own, or_else, sought_label, prepare_statement, prepare_found, add_ready, prepare_roster, preload, at_place, ready_with, prepare_place, prepare_local, prepare_named, ambiguous, prepare_normal}
use Rattle.machine.specs.Apply.{label_of, names, with_mark, marks, check_marks, is_marked, marked, unmarked_first, unmarked, seat, arranged, binds, bound, check_hyp, check_hyps, is_pair, disjoint, variables_of, disjoint_from, keeps, forest, conclusion, conclude, apply_assertion, assign_entries, run_prepared, run_ready}
use Rattle.machine.specs.Run.{settle, go_on, step_at, on_letter, after_step, on_parts, on_normal, on_token, end_token, on_plain, by_mode, on_byte, on_bytes, is_claim, only_entry, accept, unfinished, finish, on_end, all_numbered, members, first_variables, fresh, begin, admitted, start, run}
use Rattle.machine.specs.Bench.{ended, answer_good, judged, answer}
use Rattle.machine.specs.Files.{bytes, two, four, forever, each, each_pair, record_of, constant as constant·Files, variable as variable·Files, float, essential, assertion, proof, greatest, told, answered, stated}
use Rattle.machine.specs.BenchTable.{symbols, var_p, var_q, implies, wff, proves, bench_file, first1, first2, th1_pool, th1, th2, starred, unstarred, further, repeated, roster, numbers}
use Rattle.postorder.specs.LongForm.{following, joined, long_text, label_size, text_length, less_by, and_then, fits, nothing_written, written, entries_for, most_bytes, long_of, long_answer, proof_from, with_proof, post_order, tree_size, spare}
use Rattle.postorder.specs.LongTable.{long_told, long_answered, long_stated, long1, long2, twice, nested, doubled, limits, refusals, shapes, many_letters, huge}

-- tree entries and output: just enough, and one short
pub limits-hold : map long_answered limits ≡ map long_stated limits
unfolding below at_most equal pick either both no one_of all any rising_from same rows byte u16 u32 length_at kind_at next_at fixed_size asserts supposes lists_symbols is_statement class_at scope_end_at hyp_count pair_count listed_count lists_from pairs_from listed_from rest_from rest_size rest_at hyps_at pair_at pairs_at symbol_count symbols_from symbols_at typecode_at variable_at unknown_kind bad_rest no_symbols cut_short off_layout bad_record too_many name_byte label_byte named used bad_symbol bad_label class_of constant variable within active defined variables bad_numbers bad_reference float_of float_below has_float symbol_given all_given lacks_float second_float equal_members bad_assertion bad_frame no_proof nothing unless fault_at after refusal end_verdict at_end decided walk outcome verdict index laid symbol_at statement_at decode database symbol_of statement_of typecode floated replaced substituted under unless·Chain bind refusal_number number place steps is_variable is_float is_essential expression expression_of among add_if mandatory mandatory_pairs frame_pairs frame_of ground divider bad_byte letter prepend cut parts mark_and_label local_first split_colon split limited cost push add_place save_top place_of is_some add_local give_local numbered numbered_by ready spend leaf_of prepare_hypothesis first_from bears sought bears_own sought_own or_else sought_label prepare_statement prepare_found add_ready prepare_roster preload at_place ready_with prepare_place prepare_local prepare_named ambiguous prepare_normal label_of names with_mark marks check_marks is_marked marked unmarked_first unmarked seat arranged binds bound check_hyp check_hyps is_pair disjoint variables_of disjoint_from keeps forest conclusion conclude apply_assertion assign_entries run_prepared run_ready settle go_on step_at on_letter after_step on_parts on_normal on_token end_token on_plain by_mode on_byte on_bytes is_claim only_entry accept unfinished finish on_end all_numbered members first_variables fresh begin admitted start run ended answer_good judged answer bytes two four forever each each_pair record_of constant·Files variable·Files float essential assertion proof greatest told answered stated symbols var_p var_q implies wff proves bench_file first1 first2 th1_pool th1 th2 starred unstarred further repeated roster numbers following joined long_text label_size text_length less_by and_then fits nothing_written written entries_for most_bytes long_of long_answer proof_from with_proof post_order tree_size spare long_told long_answered long_stated long1 long2 twice nested doubled limits refusals shapes many_letters huge
limits-hold = refl

-- the proof's own refusal comes first
pub refusals-hold : map long_answered refusals ≡ map long_stated refusals
unfolding below at_most equal pick either both no one_of all any rising_from same rows byte u16 u32 length_at kind_at next_at fixed_size asserts supposes lists_symbols is_statement class_at scope_end_at hyp_count pair_count listed_count lists_from pairs_from listed_from rest_from rest_size rest_at hyps_at pair_at pairs_at symbol_count symbols_from symbols_at typecode_at variable_at unknown_kind bad_rest no_symbols cut_short off_layout bad_record too_many name_byte label_byte named used bad_symbol bad_label class_of constant variable within active defined variables bad_numbers bad_reference float_of float_below has_float symbol_given all_given lacks_float second_float equal_members bad_assertion bad_frame no_proof nothing unless fault_at after refusal end_verdict at_end decided walk outcome verdict index laid symbol_at statement_at decode database symbol_of statement_of typecode floated replaced substituted under unless·Chain bind refusal_number number place steps is_variable is_float is_essential expression expression_of among add_if mandatory mandatory_pairs frame_pairs frame_of ground divider bad_byte letter prepend cut parts mark_and_label local_first split_colon split limited cost push add_place save_top place_of is_some add_local give_local numbered numbered_by ready spend leaf_of prepare_hypothesis first_from bears sought bears_own sought_own or_else sought_label prepare_statement prepare_found add_ready prepare_roster preload at_place ready_with prepare_place prepare_local prepare_named ambiguous prepare_normal label_of names with_mark marks check_marks is_marked marked unmarked_first unmarked seat arranged binds bound check_hyp check_hyps is_pair disjoint variables_of disjoint_from keeps forest conclusion conclude apply_assertion assign_entries run_prepared run_ready settle go_on step_at on_letter after_step on_parts on_normal on_token end_token on_plain by_mode on_byte on_bytes is_claim only_entry accept unfinished finish on_end all_numbered members first_variables fresh begin admitted start run ended answer_good judged answer bytes two four forever each each_pair record_of constant·Files variable·Files float essential assertion proof greatest told answered stated symbols var_p var_q implies wff proves bench_file first1 first2 th1_pool th1 th2 starred unstarred further repeated roster numbers following joined long_text label_size text_length less_by and_then fits nothing_written written entries_for most_bytes long_of long_answer proof_from with_proof post_order tree_size spare long_told long_answered long_stated long1 long2 twice nested doubled limits refusals shapes many_letters huge
refusals-hold = refl

-- marks, local labels, saved steps
pub shapes-hold : map long_answered shapes ≡ map long_stated shapes
unfolding below at_most equal pick either both no one_of all any rising_from same rows byte u16 u32 length_at kind_at next_at fixed_size asserts supposes lists_symbols is_statement class_at scope_end_at hyp_count pair_count listed_count lists_from pairs_from listed_from rest_from rest_size rest_at hyps_at pair_at pairs_at symbol_count symbols_from symbols_at typecode_at variable_at unknown_kind bad_rest no_symbols cut_short off_layout bad_record too_many name_byte label_byte named used bad_symbol bad_label class_of constant variable within active defined variables bad_numbers bad_reference float_of float_below has_float symbol_given all_given lacks_float second_float equal_members bad_assertion bad_frame no_proof nothing unless fault_at after refusal end_verdict at_end decided walk outcome verdict index laid symbol_at statement_at decode database symbol_of statement_of typecode floated replaced substituted under unless·Chain bind refusal_number number place steps is_variable is_float is_essential expression expression_of among add_if mandatory mandatory_pairs frame_pairs frame_of ground divider bad_byte letter prepend cut parts mark_and_label local_first split_colon split limited cost push add_place save_top place_of is_some add_local give_local numbered numbered_by ready spend leaf_of prepare_hypothesis first_from bears sought bears_own sought_own or_else sought_label prepare_statement prepare_found add_ready prepare_roster preload at_place ready_with prepare_place prepare_local prepare_named ambiguous prepare_normal label_of names with_mark marks check_marks is_marked marked unmarked_first unmarked seat arranged binds bound check_hyp check_hyps is_pair disjoint variables_of disjoint_from keeps forest conclusion conclude apply_assertion assign_entries run_prepared run_ready settle go_on step_at on_letter after_step on_parts on_normal on_token end_token on_plain by_mode on_byte on_bytes is_claim only_entry accept unfinished finish on_end all_numbered members first_variables fresh begin admitted start run ended answer_good judged answer bytes two four forever each each_pair record_of constant·Files variable·Files float essential assertion proof greatest told answered stated symbols var_p var_q implies wff proves bench_file first1 first2 th1_pool th1 th2 starred unstarred further repeated roster numbers following joined long_text label_size text_length less_by and_then fits nothing_written written entries_for most_bytes long_of long_answer proof_from with_proof post_order tree_size spare long_told long_answered long_stated long1 long2 twice nested doubled limits refusals shapes many_letters huge
shapes-hold = refl

-- a derivation of more than 2^110 labels is not written out
pub huge-hold : map long_answered huge ≡ map long_stated huge
unfolding below at_most equal pick either both no one_of all any rising_from same rows byte u16 u32 length_at kind_at next_at fixed_size asserts supposes lists_symbols is_statement class_at scope_end_at hyp_count pair_count listed_count lists_from pairs_from listed_from rest_from rest_size rest_at hyps_at pair_at pairs_at symbol_count symbols_from symbols_at typecode_at variable_at unknown_kind bad_rest no_symbols cut_short off_layout bad_record too_many name_byte label_byte named used bad_symbol bad_label class_of constant variable within active defined variables bad_numbers bad_reference float_of float_below has_float symbol_given all_given lacks_float second_float equal_members bad_assertion bad_frame no_proof nothing unless fault_at after refusal end_verdict at_end decided walk outcome verdict index laid symbol_at statement_at decode database symbol_of statement_of typecode floated replaced substituted under unless·Chain bind refusal_number number place steps is_variable is_float is_essential expression expression_of among add_if mandatory mandatory_pairs frame_pairs frame_of ground divider bad_byte letter prepend cut parts mark_and_label local_first split_colon split limited cost push add_place save_top place_of is_some add_local give_local numbered numbered_by ready spend leaf_of prepare_hypothesis first_from bears sought bears_own sought_own or_else sought_label prepare_statement prepare_found add_ready prepare_roster preload at_place ready_with prepare_place prepare_local prepare_named ambiguous prepare_normal label_of names with_mark marks check_marks is_marked marked unmarked_first unmarked seat arranged binds bound check_hyp check_hyps is_pair disjoint variables_of disjoint_from keeps forest conclusion conclude apply_assertion assign_entries run_prepared run_ready settle go_on step_at on_letter after_step on_parts on_normal on_token end_token on_plain by_mode on_byte on_bytes is_claim only_entry accept unfinished finish on_end all_numbered members first_variables fresh begin admitted start run ended answer_good judged answer bytes two four forever each each_pair record_of constant·Files variable·Files float essential assertion proof greatest told answered stated symbols var_p var_q implies wff proves bench_file first1 first2 th1_pool th1 th2 starred unstarred further repeated roster numbers following joined long_text label_size text_length less_by and_then fits nothing_written written entries_for most_bytes long_of long_answer proof_from with_proof post_order tree_size spare long_told long_answered long_stated long1 long2 twice nested doubled limits refusals shapes many_letters huge
huge-hold = refl
