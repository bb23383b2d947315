-- At most one answer meets the contract of each public function. Laws alone.
-- OneAnswer: document 01, 'What the contracts settle', a theorem for each public function.
pub mod OneAnswer
