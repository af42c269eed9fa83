-- The definition of a run answers 44 on the vector, with its place and steps. The quicker way is computed inside the checker, and its
-- answer is the definition's (Same.antt). The `unfolding` line names every definition on the way; tests/runs/make_big.py writes it.
use mathlib.Core.Path.{◌≡◌, refl, ap, ◌∙◌}
use Rattle.frames.specs.Logic.{below, at_most, equal, pick, either, both, no, one_of, all, any, rising_from, same, rows}
use Rattle.frames.specs.Layout.{byte, u16, u32, length_at, kind_at, next_at, fixed_size, asserts, supposes, lists_symbols, is_statement, class_at, scope_end_at, hyp_count, pair_count, listed_count, lists_from, pairs_from, listed_from, rest_from, rest_size, rest_at, hyps_at, pair_at, pairs_at, symbol_count, symbols_from, symbols_at, typecode_at, variable_at}
use Rattle.frames.specs.Table.{unknown_kind, bad_rest, no_symbols, cut_short, off_layout, bad_record, too_many, name_byte, label_byte, named, used, bad_symbol, bad_label, class_of, constant, variable, within, active, defined, variables, bad_numbers, bad_reference, float_of, float_below, has_float, symbol_given, all_given, lacks_float, second_float, equal_members, bad_assertion, bad_frame, no_proof}
use Rattle.frames.specs.Verdict.{nothing, unless, fault_at, after, refusal, end_verdict, at_end, decided, walk, outcome, verdict, index, laid}
use Rattle.frames.specs.Database.{symbol_at, statement_at, decode, database}
use Rattle.frames.specs.Facts.{symbol_of, statement_of, typecode, floated}
use Rattle.book.specs.Book.{replaced, substituted, under}
use Rattle.machine.specs.Chain.{unless as unless·Chain, bind}
use Rattle.machine.specs.Answer.{refusal_number, number, place, steps}
use Rattle.machine.specs.Ground.{is_variable, is_float, is_essential, expression, expression_of, among, add_if, mandatory, mandatory_pairs, frame_pairs, frame_of, ground}
use Rattle.machine.specs.Reading.{divider, bad_byte, letter, prepend, cut, parts, mark_and_label, local_first, split_colon, split}
use Rattle.machine.specs.Memory.{limited, cost, push, add_place, save_top, place_of, is_some, add_local, give_local}
use Rattle.machine.specs.Prepare.{numbered, numbered_by, ready, spend, leaf_of, prepare_hypothesis, first_from, bears, sought, bears_own, sought_own, or_else, sought_label, prepare_statement, prepare_found, add_ready, prepare_roster, preload, at_place, ready_with, prepare_place, prepare_local, prepare_named, ambiguous, prepare_normal}
use Rattle.machine.specs.Apply.{label_of, names, with_mark, marks, check_marks, is_marked, marked, unmarked_first, unmarked, seat, arranged, binds, bound, check_hyp, check_hyps, is_pair, disjoint, variables_of, disjoint_from, keeps, forest, conclusion, conclude, apply_assertion, assign_entries, run_prepared, run_ready}
use Rattle.machine.specs.Run.{settle, go_on, step_at, on_letter, after_step, on_parts, on_normal, on_token, end_token, on_plain, by_mode, on_byte, on_bytes, is_claim, only_entry, accept, unfinished, finish, on_end, all_numbered, members, first_variables, fresh, begin, admitted, start, run}
use Rattle.machine.specs.Bench.{ended, answer_good, judged, answer}
use Rattle.machine.specs.Files.{bytes, two, four, forever, each, each_pair, record_of, constant as constant·Files, variable as variable·Files, float, essential, assertion, proof, greatest, told, answered, stated}
use Rattle.machine.specs.BenchTable.{symbols, var_p, var_q, implies, wff, proves, bench_file, first1, first2, th1_pool, th1, th2, starred, unstarred, further, repeated, roster, numbers}
use Rattle.machine_long.specs.ManyVariables.{many_variables}
use Rattle.machine_try.specs.Hex.{digit, hex, call}
use Rattle.machine_long.proofs.Quick.{constant_of, variable_of, pair_of, defined_of, active_of, numbers_of, float_for, float_under, has_float_of, given_of, all_given_of, lacks_of, second_of, assertion_of, has_name, has_label, fault_here, symbol_here, statement_here, class_in, statement_in, before, after_here, with_here, judged_at_end, judged_here, quick_walk, quick, quick_answer}
use Rattle.machine_long.proofs.Same.{answer-same}

-- the quicker way, computed
computed : told (quick_answer (quick many_variables.file) many_variables.statement many_variables.room) ≡ many_variables.given
unfolding below at_most equal pick either both no one_of all any rising_from same rows byte u16 u32 length_at kind_at next_at fixed_size asserts supposes lists_symbols is_statement class_at scope_end_at hyp_count pair_count listed_count lists_from pairs_from listed_from rest_from rest_size rest_at hyps_at pair_at pairs_at symbol_count symbols_from symbols_at typecode_at variable_at unknown_kind bad_rest no_symbols cut_short off_layout bad_record too_many name_byte label_byte named used bad_symbol bad_label class_of constant variable within active defined variables bad_numbers bad_reference float_of float_below has_float symbol_given all_given lacks_float second_float equal_members bad_assertion bad_frame no_proof nothing unless fault_at after refusal end_verdict at_end decided walk outcome verdict index laid symbol_at statement_at decode database symbol_of statement_of typecode floated replaced substituted under unless·Chain bind refusal_number number place steps is_variable is_float is_essential expression expression_of among add_if mandatory mandatory_pairs frame_pairs frame_of ground divider bad_byte letter prepend cut parts mark_and_label local_first split_colon split limited cost push add_place save_top place_of is_some add_local give_local numbered numbered_by ready spend leaf_of prepare_hypothesis first_from bears sought bears_own sought_own or_else sought_label prepare_statement prepare_found add_ready prepare_roster preload at_place ready_with prepare_place prepare_local prepare_named ambiguous prepare_normal label_of names with_mark marks check_marks is_marked marked unmarked_first unmarked seat arranged binds bound check_hyp check_hyps is_pair disjoint variables_of disjoint_from keeps forest conclusion conclude apply_assertion assign_entries run_prepared run_ready settle go_on step_at on_letter after_step on_parts on_normal on_token end_token on_plain by_mode on_byte on_bytes is_claim only_entry accept unfinished finish on_end all_numbered members first_variables fresh begin admitted start run ended answer_good judged answer bytes two four forever each each_pair record_of constant·Files variable·Files float essential assertion proof greatest told answered stated symbols var_p var_q implies wff proves bench_file first1 first2 th1_pool th1 th2 starred unstarred further repeated roster numbers many_variables digit hex call constant_of variable_of pair_of defined_of active_of numbers_of float_for float_under has_float_of given_of all_given_of lacks_of second_of assertion_of has_name has_label fault_here symbol_here statement_here class_in statement_in before after_here with_here judged_at_end judged_here quick_walk quick quick_answer
computed = refl

-- the definition
pub many_variables-hold : answered many_variables ≡ stated many_variables
unfolding answered stated
many_variables-hold =
    ap told (answer-same many_variables.file many_variables.statement many_variables.room) ∙ computed
